-- Reading what was written gives back the maximum, how many are held and every energy, from place 0; writing what was read gives back the same bytes. So a
-- record has one reading, whatever the store held, and its bytes are determined by the queue in order. Assumes nothing.
use mathlib.Core.Path.{◌≡◌, refl, sym, ap, ◌∙◌}
use mathlib.Core.Bool.{true}
use mathlib.Core.List.{List, [], ◌∷◌, ◌++◌, append_assoc, append-nil}
use Prim.Native.Nat.{ℕ, zero, suc, ◌+◌, ◌-◌, ◌*◌, ◌^◌, ◌≤◌, ◌<◌}
use native.Mathlib.Omega.{arith}
use borrow.Author.Tests.{le-leb, le-ltb}
use lib.ListN.{length, get_or, take, drop, length-append, length-drop, take-append-drop}
use lib.Seq.{take_at, drop_at, drop-drop, get_or-drop, take-add}
use lib.Ieee.{Float, binary64}
use lib.Ieee.Bits.{to_bits-lt}
use Rattle.base_refusals.specs.Outcome.{went, Said, said_by}
use Rattle.base_refusals.specs.Rows.{number_of}
use Rattle.base_refusals.proofs.Rows.{number_next, number_parts}
use Rattle.base_fields.specs.declared.Order.{Order}
use Rattle.base_fields.specs.Field.{number_in, bytes_of}
use Rattle.base_fields.proofs.Orders.{bytes_length, read_again, write_again}
use Rattle.history_queue.specs.declared.Queue.{Queue}
use Rattle.history_queue.specs.Queue.{longest, over, held_of, first_part}
use Rattle.history_set.specs.Set.{none_below}
use Rattle.history_queue.proofs.Ring.{Suited, suits_it}
use Rattle.history_queue.proofs.Held.{held_parts}
use Rattle.record_layout.specs.declared.Model.{Model}
use Rattle.record_layout.specs.declared.Kind.TheVariants.{Queue as QueueKind}
use Rattle.record_layout.specs.Layout.{kind_width, head_width, number_width, energy_width, queue_least, least_length, order_of, numbers_in, entry_bytes, frame_rows, record_of}
use Rattle.base_refusals.proofs.Behind.{through}
use Rattle.record_layout.proofs.Frames.{Framed, framed, passes}
use Rattle.record_layout.proofs.Runs.{numbers_small}
use Rattle.record_layout.proofs.Again.{record_body, record_passes, record_again, whole_read, whole_written}
use Rattle.record_queue_reader.specs.QueueRecord.{
  maximum_in,
  held_in,
  patterns_in,
  numbers_fit,
  all_fit,
  energies_of,
  patterns_of,
  stored,
  queue_in,
  content_rows,
  check_rows,
  store_rows,
  read_energies_rows,
  read_energies,
}
use Rattle.record_queue_reader.specs.Inner.{maximum_at, held_at}
use Rattle.record_queue_reader.proofs.Cases.{Sound, sound, sound_passes, read_went, store_fits, numbers_within, energies_count}
use Rattle.record_queue_writer.specs.Writing.{body_of, energies_record, write_energies}
use Rattle.record_queue_writer.proofs.Places.{patterns_length}
use Rattle.record_queue_writer.proofs.Cases.{body_length, whole_length}
use Rattle.record_queue_writer.proofs.Patterns.{Doubles, energies_again, patterns_in_lem, patterns_again, energies_in}

-- two numbers that a sound queue has
numbers_in_lem : (maximum held : ℕ) → 1 ≤ maximum → maximum ≤ longest → held ≤ maximum → numbers_fit maximum held ≡ true
unfolding numbers_fit
numbers_in_lem maximum held a b d = rw (le-leb 1 maximum a, le-leb maximum longest b, le-leb held maximum d)

patterns_small : (energies : List Float) → Doubles energies → (i : ℕ) → get_or (patterns_of energies) i 0 < 2 ^ 64
patterns_small [] d i = omega arith
patterns_small (energy ∷ rest) d zero = to_bits-lt binary64 energy d.0
patterns_small (energy ∷ rest) d (suc i) = patterns_small rest d.1 i

-- ---- what was written
module _ (model : Model) (maximum : ℕ) (energies : List Float) (few : maximum ≤ longest) (within : length energies ≤ maximum) where
  abbrev order : Order
  order = order_of (QueueKind model)

  abbrev bytes : List ℕ
  bytes = record_of (QueueKind model) (body_of model maximum energies)

  abbrev first : List ℕ
  first = bytes_of order number_width maximum

  abbrev second : List ℕ
  second = bytes_of order number_width (length energies)

  abbrev rest : List ℕ
  rest = entry_bytes (QueueKind model) (patterns_of energies)

  -- its fields
  at_maximum : drop maximum_at bytes ≡ first ++ (second ++ rest)
  at_maximum = record_body (QueueKind model) (body_of model maximum energies) ∙ append_assoc first second rest

  at_held : drop held_at bytes ≡ second ++ rest
  at_held = sym (drop-drop number_width maximum_at bytes) ∙ ap (drop number_width) at_maximum ∙ drop_at first (second ++ rest) number_width (bytes_length order number_width maximum)

  at_energies : drop least_length bytes ≡ rest
  at_energies = sym (drop-drop number_width held_at bytes) ∙ ap (drop number_width) at_held ∙ drop_at second rest number_width (bytes_length order number_width (length energies))

  pub maximum_again : maximum_in model bytes ≡ maximum
  maximum_again = ap (number_in order number_width) at_maximum ∙ read_again order number_width maximum (second ++ rest) (omega arith)

  pub held_again : held_in model bytes ≡ length energies
  held_again = ap (number_in order number_width) at_held ∙ read_again order number_width (length energies) rest (omega arith)

  pub patterns_are : Doubles energies → patterns_in model bytes ≡ patterns_of energies
  patterns_are doubles =
      ap (λ (n : ℕ). numbers_in order energy_width n (drop least_length bytes)) held_again
      ∙ ap (numbers_in order energy_width (length energies)) at_energies
      ∙ ap (λ (n : ℕ). numbers_in order energy_width n rest) (sym (patterns_length energies))
      ∙ whole_read order energy_width (patterns_of energies) (patterns_small energies doubles)

  -- it passes every check
  framed_written : Framed (QueueKind model) bytes
  framed_written =
      let n = body_length model maximum energies in
      record_passes (QueueKind model) (body_of model maximum energies) (omega (arith, n)) (le-leb queue_least (kind_width + length (body_of model maximum energies)) (omega (arith, n)))

  module _ (doubles : Doubles energies) (least : 1 ≤ maximum) (none : none_below energies ≡ true) where
    sound_written : Sound model bytes
    unfolding energies_record
    sound_written =
        record {
          numbers =
              ap (λ (n : ℕ). numbers_fit n (held_in model bytes)) maximum_again ∙ ap (numbers_fit maximum) held_again ∙ numbers_in_lem maximum (length energies) least few within;
          length_is = omega (arith, framed_written.length_is, whole_length model maximum energies, held_again);
          fit = ap all_fit (patterns_are doubles) ∙ patterns_in_lem energies doubles none;
        }

    pub written_passes : number_of (check_rows model (energies_record model maximum energies)) ≡ 0
    unfolding energies_record
    written_passes =
        sym (number_next (frame_rows (QueueKind model) bytes) (content_rows model bytes) 0 (passes (QueueKind model) bytes framed_written) (sym (sound_passes model bytes sound_written)))

    -- and is read again
    pub read_what_was_written : (store : List Float) → length store ≡ maximum
        → read_energies model (energies_record model maximum energies) store
        ≡ went (energies ++ drop (length energies) store) (record { maximum = maximum; head = 0; held = length energies })
    unfolding energies_record stored
    read_what_was_written store s =
        read_went model bytes store written_passes (s ∙ sym maximum_again)
        ∙ ap (λ (l : List ℕ). went (energies_of l ++ drop (held_in model bytes) store) (queue_in model bytes)) (patterns_are doubles)
        ∙ ap (λ (l : List Float). went (l ++ drop (held_in model bytes) store) (queue_in model bytes)) (energies_again energies doubles)
        ∙ ap (λ (n : ℕ). went (energies ++ drop n store) (record { maximum = maximum_in model bytes; head = 0; held = n })) held_again
        ∙ ap (λ (n : ℕ). went (energies ++ drop (length energies) store) (record { maximum = n; head = 0; held = length energies })) maximum_again

-- ---- what is read was so written
module _ (model : Model) (bytes : List ℕ) (b : (i : ℕ) → get_or bytes i 0 < 256) (fit : all_fit (patterns_in model bytes) ≡ true)
    (whole : length bytes ≡ least_length + energy_width * held_in model bytes) where
  abbrev o : Order
  o = order_of (QueueKind model)

  from : (n i : ℕ) → get_or (drop n bytes) i 0 < 256
  from n i = rw (get_or-drop n bytes i 0) (b (n + i))

  body_again : body_of model (maximum_in model bytes) (energies_of (patterns_in model bytes)) ≡ drop head_width bytes
  body_again =
      let body = drop head_width bytes in
      let maximum = maximum_in model bytes in
      let held = held_in model bytes in
      let patterns = patterns_in model bytes in
      let next : drop held_at bytes ≡ drop 4 body = sym (drop-drop 4 head_width bytes) in
      let last : drop least_length bytes ≡ drop 8 body = sym (drop-drop 8 head_width bytes) in
      ap (λ (k : ℕ). bytes_of o 4 maximum ++ bytes_of o 4 k ++ entry_bytes (QueueKind model) (patterns_of (energies_of patterns))) (energies_count model bytes)
      ∙ ap (λ (k : List ℕ). bytes_of o 4 maximum ++ bytes_of o 4 held ++ entry_bytes (QueueKind model) k)
      (patterns_again patterns (numbers_small o 8 held (drop least_length bytes) (from least_length)) fit)
      ∙ ap (λ (k : List ℕ). bytes_of o 4 maximum ++ bytes_of o 4 held ++ k)
      (whole_written o 8 held (drop least_length bytes) (from least_length) (omega (arith, whole, length-drop least_length bytes)))
      ∙ ap (λ (k : List ℕ). k ++ bytes_of o 4 held ++ drop least_length bytes) (write_again o 4 body (from head_width) (omega (arith, whole, length-drop head_width bytes)))
      ∙ ap (λ (k : List ℕ). take 4 body ++ k ++ drop least_length bytes) (write_again o 4 (drop held_at bytes) (from held_at) (omega (arith, whole, length-drop held_at bytes)))
      ∙ ap (λ (k : List ℕ). take 4 body ++ take 4 k ++ drop least_length bytes) next
      ∙ ap (λ (k : List ℕ). take 4 body ++ take 4 (drop 4 body) ++ k) last
      ∙ ap (λ (k : List ℕ). k ++ drop 8 body) (sym (take-add 4 4 body))
      ∙ take-append-drop 8 body

module _ (model : Model) (bytes : List ℕ) (b : (i : ℕ) → get_or bytes i 0 < 256) (e : number_of (check_rows model bytes) ≡ 0) where
  abbrev parts : (number_of (frame_rows (QueueKind model) bytes) ≡ 0) × (number_of (content_rows model bytes) ≡ 0)
  parts = number_parts (frame_rows (QueueKind model) bytes) (content_rows model bytes) e

  pub write_what_was_read : energies_record model (maximum_in model bytes) (energies_of (patterns_in model bytes)) ≡ bytes
  unfolding energies_record
  write_what_was_read =
      let f = framed (QueueKind model) bytes parts.0 in
      let s = sound model bytes parts.1 in
      ap (record_of (QueueKind model)) (body_again model bytes b s.fit (omega (arith, f.length_is, f.long, s.length_is))) ∙ record_again (QueueKind model) bytes b f

-- ---- one reading: what the store held plays no part in the answer
pub one_reading : (model : Model) (bytes : List ℕ) (store other : List Float) → length store ≡ length other
    → said_by (read_energies model bytes store) ≡ said_by (read_energies model bytes other)
unfolding read_energies
one_reading model bytes store other e =
    rw e (through (λ (s : Said Queue). s) (λ n. refl) (read_energies_rows model bytes other) (went (stored model bytes store) (queue_in model bytes)) (went (stored model bytes other) (queue_in model bytes)) refl)

-- ---- a queue that was read holds the record's energies, from place 0
module _ (model : Model) (bytes : List ℕ) (store : List Float) (s : Sound model bytes) (whole : length store ≡ maximum_in model bytes) where
  within : (1 ≤ maximum_in model bytes) × (maximum_in model bytes ≤ longest) × (held_in model bytes ≤ maximum_in model bytes)
  within = numbers_within (maximum_in model bytes) (held_in model bytes) s.numbers

  pub suited_read : Suited (queue_in model bytes) (length (stored model bytes store))
  unfolding stored
  suited_read =
      let n = length-append (energies_of (patterns_in model bytes)) (drop (held_in model bytes) store) in
      let d = length-drop (held_in model bytes) store in
      record {
        least = within.0;
        most = within.1;
        whole = omega (arith, n, d, whole, energies_count model bytes, within.2);
        within = omega (arith, within.0);
        full = within.2;
      }

  pub held_read : held_of (over (queue_in model bytes) (stored model bytes store)) ≡ energies_of (patterns_in model bytes)
  unfolding stored
  held_read =
      let queue = queue_in model bytes in
      let held = held_in model bytes in
      let energies = energies_of (patterns_in model bytes) in
      let all = energies ++ drop held store in
      let n : first_part queue ≡ held = omega (arith, within.2) in
      held_parts queue all suited_read
      ∙ ap (λ (k : ℕ). take k all ++ take (held - k) all) n
      ∙ ap (λ (k : ℕ). take held all ++ take k all) {x = held - held} {y = 0} (omega arith)
      ∙ append-nil (take held all)
      ∙ take_at energies (drop held store) held (energies_count model bytes)

-- so writing the queue that was read gives back the record's bytes
pub written_as_read : (model : Model) (bytes : List ℕ) (store : List Float) → ((i : ℕ) → get_or bytes i 0 < 256) → number_of (read_energies_rows model bytes store) ≡ 0
    → (out : List ℕ) → length bytes ≤ length out
    → write_energies model (over (queue_in model bytes) (stored model bytes store)) out ≡ went (bytes ++ drop (length bytes) out) (length bytes)
unfolding write_energies
written_as_read model bytes store b e out room =
    let p = number_parts (check_rows model bytes) (store_rows model bytes store) e in
    let s = sound model bytes (parts model bytes b p.0).1 in
    let whole = store_fits model bytes store p.1 in
    rw (
      suits_it (queue_in model bytes) (length (stored model bytes store)) (suited_read model bytes store s whole),
      held_read model bytes store s whole,
      energies_in (patterns_in model bytes) s.fit,
      write_what_was_read model bytes b p.0,
      le-ltb (length out) (length bytes) room,
    )
