-- What a conversion comes to behind the rows of its record; how long the converted record is; and that a head and then each field turned round are that
-- record. Assumes nothing.
use mathlib.Core.Path.{◌≡◌, refl, sym, ap, ◌∙◌}
use mathlib.Core.List.{List, [], ◌∷◌, ◌++◌, append-nil}
use Prim.Native.Nat.{ℕ, ◌+◌, ◌-◌, ◌*◌, ◌≤◌, ◌<◌}
use native.Mathlib.Omega.{arith}
use borrow.Author.Tests.{lt-ltb, le-ltb}
use lib.ListN.{length, get_or, drop, length-append, length-drop}
use lib.Seq.{sets, drop-drop, get_or-drop}
use Rattle.base_refusals.specs.declared.Refusal.TheVariants.{ROOM}
use Rattle.base_refusals.specs.Outcome.{refused}
use Rattle.base_refusals.specs.Rows.{number_of, by_rows}
use Rattle.base_refusals.proofs.Rows.{number_parts}
use Rattle.base_refusals.proofs.Behind.{goes_on}
use Rattle.base_fields.specs.declared.Order.{Order}
use Rattle.base_fields.specs.Field.{other, number_in, bytes_of}
use Rattle.bins.specs.Bin.{bins}
use Rattle.record_layout.specs.declared.Model.{Model}
use Rattle.record_layout.specs.declared.Model.TheVariants.{Ours, Third}
use Rattle.record_layout.specs.declared.Kind.{Kind}
use Rattle.record_layout.specs.declared.Kind.TheVariants.{Histogram, Queue}
use Rattle.record_layout.specs.Layout.{head_width, count_width, number_width, energy_width, histogram_length, least_length, order_by, numbers_in, all_bytes, body_in, frame_rows, with_head, record_of, room_row, written_to}
use Rattle.record_layout.proofs.Frames.{framed}
use Rattle.record_layout.proofs.Heads.{record_put}
use Rattle.record_layout.proofs.Runs.{numbers_length, numbers_small}
use Rattle.record_layout.proofs.Turns.{sets_append}
use Rattle.record_histogram.specs.Record.{counters_in}
use Rattle.record_histogram.specs.Writing.{counters_record}
use Rattle.record_histogram.proofs.Cases.{framed_length}
use Rattle.record_histogram.proofs.WriterCases.{whole_length as histogram_length_lem}
use Rattle.record_queue_reader.specs.QueueRecord.{maximum_in, held_in, patterns_in, energies_of, patterns_of, content_rows, check_rows}
use Rattle.record_queue_reader.proofs.Cases.{Sound, sound, energies_count}
use Rattle.record_queue_writer.specs.Writing.{energies_record}
use Rattle.record_queue_writer.proofs.Cases.{whole_length as queue_length}
use Rattle.record_queue_writer.proofs.Patterns.{patterns_again}
use Rattle.record_conversion.specs.Conversion.{other_model, converted_record, record_rows, converted}
use Rattle.record_conversion.specs.Inner.{each_turned}
use Rattle.record_conversion.proofs.Fields.{turned_length, turned_numbers}

-- the other model has the other order of bytes
pub other_order : (model : Model) → order_by (other_model model) ≡ other (order_by model)
other_order Ours = refl
other_order Third = refl

-- ---- behind the rows of the record
module _ (kind : Kind) (bytes out : List ℕ) (e : number_of (record_rows kind bytes) ≡ 0) where
  pub behind : converted kind bytes out ≡ by_rows (room_row out (converted_record kind bytes) ∷ []) (written_to out (converted_record kind bytes))
  unfolding converted
  behind = goes_on (written_to out (converted_record kind bytes)) (record_rows kind bytes) (room_row out (converted_record kind bytes) ∷ []) e

  pub no_room : length out < length (converted_record kind bytes) → converted kind bytes out ≡ refused ROOM
  no_room h = behind ∙ rw (lt-ltb (length out) (length (converted_record kind bytes)) h)

  pub convert_went : length (converted_record kind bytes) ≤ length out → converted kind bytes out ≡ written_to out (converted_record kind bytes)
  convert_went h = behind ∙ rw (le-ltb (length out) (length (converted_record kind bytes)) h)

-- ---- a histogram's record that passes
module _ (model : Model) (bytes : List ℕ) (e : number_of (frame_rows (Histogram model) bytes) ≡ 0) where
  pub counters_length : length (converted_record (Histogram model) bytes) ≡ length bytes
  unfolding converted_record counters_in
  counters_length =
      histogram_length_lem (other_model model) (counters_in model bytes) (numbers_length (order_by model) count_width bins (body_in bytes)) ∙ sym (framed_length model bytes e)

  module _ (b : (i : ℕ) → get_or bytes i 0 < 256) where
    turned_counters : converted_record (Histogram model) bytes ≡ record_of (Histogram (other_model model)) (each_turned count_width bins (body_in bytes))
    unfolding converted_record counters_record counters_in
    turned_counters =
        ap (λ (order : Order). record_of (Histogram (other_model model)) (all_bytes order count_width (counters_in model bytes))) (other_order model)
        ∙ ap (record_of (Histogram (other_model model)))
        (turned_numbers (order_by model) count_width bins (body_in bytes) (λ i. rw (get_or-drop head_width bytes i 0) (b (head_width + i)))
        (omega (arith, framed_length model bytes e, length-drop head_width bytes)))

    pub counters_put : (out : List ℕ) → length bytes ≤ length out
        → sets (with_head (Histogram (other_model model)) histogram_length out) head_width (each_turned count_width bins (body_in bytes))
        ≡ converted_record (Histogram model) bytes ++ drop (length (converted_record (Histogram model) bytes)) out
    counters_put out room =
        let n = framed_length model bytes e in
        let l = turned_length count_width bins (body_in bytes) (omega (arith, n, length-drop head_width bytes)) in
        record_put (Histogram (other_model model)) histogram_length out (each_turned count_width bins (body_in bytes)) (omega (arith, l)) (omega (arith, l, n, room))
        ∙ ap (λ (record' : List ℕ). record' ++ drop (length record') out) (sym turned_counters)

-- ---- a queue's record that passes
module _ (model : Model) (bytes : List ℕ) (e : number_of (check_rows model bytes) ≡ 0) where
  pub content : Sound model bytes
  content = sound model bytes (number_parts (frame_rows (Queue model) bytes) (content_rows model bytes) e).1

  -- as many bytes as the energies held need
  pub checked_length : length bytes ≡ least_length + energy_width * held_in model bytes
  checked_length =
      let f = framed (Queue model) bytes (number_parts (frame_rows (Queue model) bytes) (content_rows model bytes) e).0 in
      omega (arith, f.long, f.length_is, content.length_is)

  pub energies_length : length (converted_record (Queue model) bytes) ≡ length bytes
  unfolding converted_record
  energies_length =
      omega (arith, queue_length (other_model model) (maximum_in model bytes) (energies_of (patterns_in model bytes)), energies_count model bytes, checked_length)

  module _ (b : (i : ℕ) → get_or bytes i 0 < 256) where
    from : (n i : ℕ) → get_or (drop n bytes) i 0 < 256
    from n i = rw (get_or-drop n bytes i 0) (b (n + i))

    -- the two numbers, and the patterns of the energies, which are written as they were
    abbrev numbers : List ℕ
    numbers = each_turned number_width 2 (drop head_width bytes)

    abbrev entries : List ℕ
    entries = each_turned energy_width (held_in model bytes) (drop least_length bytes)

    numbers_turned : bytes_of (order_by (other_model model)) number_width (maximum_in model bytes) ++ bytes_of (order_by (other_model model)) number_width (held_in model bytes) ≡ numbers
    unfolding numbers_in all_bytes
    numbers_turned =
        let o = order_by (other_model model) in
        let first = bytes_of o number_width (maximum_in model bytes) in
        ap (λ (l : List ℕ). first ++ l) (sym (append-nil (bytes_of o number_width (held_in model bytes))))
        ∙ ap (λ (l : List ℕ). first ++ (bytes_of o number_width (number_in (order_by model) number_width l) ++ [])) (sym (drop-drop number_width head_width bytes))
        ∙ ap (λ (order : Order). all_bytes order number_width (numbers_in (order_by model) number_width 2 (drop head_width bytes))) (other_order model)
        ∙ turned_numbers (order_by model) number_width 2 (drop head_width bytes) (from head_width) (omega (arith, checked_length, length-drop head_width bytes))

    entries_turned : all_bytes (order_by (other_model model)) energy_width (patterns_of (energies_of (patterns_in model bytes))) ≡ entries
    entries_turned =
        ap (all_bytes (order_by (other_model model)) energy_width)
        (patterns_again (patterns_in model bytes) (numbers_small (order_by model) energy_width (held_in model bytes) (drop least_length bytes) (from least_length)) content.fit)
        ∙ ap (λ (order : Order). all_bytes order energy_width (patterns_in model bytes)) (other_order model)
        ∙ turned_numbers (order_by model) energy_width (held_in model bytes) (drop least_length bytes) (from least_length) (omega (arith, checked_length, length-drop least_length bytes))

    turned_energies : converted_record (Queue model) bytes ≡ record_of (Queue (other_model model)) (numbers ++ entries)
    unfolding converted_record energies_record
    turned_energies =
        ap (record_of (Queue (other_model model)))
        (ap (λ (n : ℕ). bytes_of (order_by (other_model model)) number_width (maximum_in model bytes) ++ bytes_of (order_by (other_model model)) number_width n ++ all_bytes (order_by (other_model model)) energy_width (patterns_of (energies_of (patterns_in model bytes)))) (energies_count model bytes)
        ∙ ap (λ (l : List ℕ). l ++ all_bytes (order_by (other_model model)) energy_width (patterns_of (energies_of (patterns_in model bytes)))) numbers_turned
        ∙ ap (λ (l : List ℕ). numbers ++ l) entries_turned)

    pub energies_put : (out : List ℕ) (following : ℕ) → length bytes ≤ length out → following ≡ length bytes - 4
        → sets (sets (with_head (Queue (other_model model)) following out) head_width numbers) least_length entries
        ≡ converted_record (Queue model) bytes ++ drop (length (converted_record (Queue model) bytes)) out
    energies_put out following room f =
        let n = checked_length in
        let l = turned_length number_width 2 (drop head_width bytes) (omega (arith, n, length-drop head_width bytes)) in
        let m = turned_length energy_width (held_in model bytes) (drop least_length bytes) (omega (arith, n, length-drop least_length bytes)) in
        let k = length-append numbers entries in
        sym (sets_append (with_head (Queue (other_model model)) following out) numbers entries head_width least_length (omega (arith, l)))
        ∙ record_put (Queue (other_model model)) following out (numbers ++ entries) (omega (arith, l, m, k, n)) (omega (arith, l, m, k, n, room))
        ∙ ap (λ (record' : List ℕ). record' ++ drop (length record') out) (sym turned_energies)
