-- The conversion keeps every count and energy, proved: what an operation that went left in its output's first places is its record, of which the laws of
-- record_conversion speak. And a kind and its number determine each other. Assumes nothing.
use mathlib.Core.Path.{◌≡◌, refl, sym, ap, ◌∙◌}
use Rattle.std.specs.Prelude.{Some}
use mathlib.Core.Bool.{Bool, true, false, not, cond, ◌&&◌, and-eq-true_iff}
use mathlib.Core.List.{List, [], ◌∷◌, ◌++◌}
use Prim.Native.Nat.{ℕ, ◌≤◌}
use native.Mathlib.Omega.{arith}
use borrow.Author.Tests.{le-ltb, eqb-true, ne_eqb, not-false}
use lib.Dec.{eqb}
use lib.ListN.{length, take, drop}
use lib.Seq.{take_at}
use lib.Ieee.{Float}
use Rattle.base_refusals.specs.declared.Refusal.TheVariants.{STORE}
use Rattle.base_refusals.specs.Outcome.{went, Said, said_by, kept_by}
use Rattle.base_refusals.specs.Rows.{Row, row, by_rows, number_of}
use Rattle.base_refusals.proofs.Rows.{goes, not_held, number_parts}
use Rattle.base_refusals.proofs.Behind.{none_held}
use Rattle.bins.specs.Bin.{bins}
use Rattle.history_histogram.specs.Histogram.{is_histogram}
use Rattle.history_queue.specs.Queue.{Stored, suits, held_of}
use Rattle.history_queue.proofs.Ring.{suited}
use Rattle.history_set.specs.Set.{none_below}
use Rattle.record_layout.specs.declared.Model.{Model}
use Rattle.record_layout.specs.declared.Model.TheVariants.{Ours, Third}
use Rattle.record_layout.specs.declared.Kind.{Kind}
use Rattle.record_layout.specs.declared.Kind.TheVariants.{Histogram, Queue}
use Rattle.record_layout.specs.Layout.{head_width, kinds, kind_number, known_among, known_of, kind_in, room_row, written_to}
use Rattle.record_layout.proofs.Frames.{framed}
use Rattle.record_histogram.specs.Writing.{counters_record, write_counters_rows, write_counters}
use Rattle.record_histogram.proofs.Again.{written_passes}
use Rattle.record_histogram.specs.Record.{read_counters}
use Rattle.record_queue_reader.specs.QueueRecord.{read_energies}
use Rattle.record_queue_writer.specs.Writing.{energies_record, write_energies_rows, write_energies}
use Rattle.record_queue_writer.proofs.Patterns.{Doubles}
use Rattle.record_queue_writer.proofs.Places.{held_number}
use Rattle.record_queue_writer.proofs.Again.{written_passes as queue_passes}
use Rattle.record_conversion.specs.Conversion.{other_model, turned, converted_record, record_rows, convert_rows, converted}
use Rattle.record_conversion.proofs.Cases.{behind, convert_went, counters_length, energies_length}
use Rattle.record_conversion.proofs.Keeps.{counters_written_lem, counters_pass, counters_kept, counters_back, energies_written_lem, energies_pass, energies_kept, energies_back}
use Rattle.acceptance_records.specs.Conversion.{Octets, Words, AllF64, ConversionKeeps, FourKinds}

-- ---- the record that was written
record Wrote (rows : List Row) (bytes after : List ℕ) (n : ℕ) : Type 0 where
  passed : number_of rows ≡ 0
  first : take n after ≡ bytes
  number : n ≡ length bytes

wrote : (rows : List Row) (out bytes after : List ℕ) (n : ℕ) → by_rows rows (written_to out bytes) ≡ went after n → Wrote rows bytes after n
wrote rows out bytes after n e =
    let z = none_held (λ (s : Said ℕ). s) (λ k. refl) rows (written_to out bytes) n (sym (ap said_by e)) in
    let left : written_to out bytes ≡ went after n = sym (goes (written_to out bytes) rows z) ∙ e in
    let kept : bytes ++ drop (length bytes) out ≡ after = ap (kept_by []) left in
    let m : length bytes ≡ n = cc in
    record { passed = z; first = ap (take n) (sym kept) ∙ take_at bytes (drop (length bytes) out) n m; number = sym m }

-- of a conversion
module _ (kind : Kind) (bytes out after : List ℕ) (n : ℕ) (e : converted kind bytes out ≡ went after n) where
  made : Wrote (convert_rows kind bytes out) (converted_record kind bytes) after n
  unfolding converted
  made = wrote (convert_rows kind bytes out) out (converted_record kind bytes) after n e

  sound : number_of (record_rows kind bytes) ≡ 0
  sound = (number_parts (record_rows kind bytes) (room_row out (converted_record kind bytes) ∷ []) made.passed).0

  back_again : (again : List ℕ) → n ≤ length again → number_of (record_rows (turned kind) (converted_record kind bytes)) ≡ 0
      → converted_record (turned kind) (converted_record kind bytes) ≡ bytes → length (converted_record kind bytes) ≡ length bytes
      → converted (turned kind) (take n after) again ≡ went (bytes ++ drop n again) n
  back_again again room pass is same =
      let l : length bytes ≡ n = sym (made.number ∙ same) in
      ap (λ (given : List ℕ). converted (turned kind) given again) made.first
      ∙ convert_went (turned kind) (converted_record kind bytes) again pass (omega (arith, ap length is, l, room))
      ∙ ap (written_to again) is
      ∙ ap (λ (k : ℕ). went (bytes ++ drop k again) k) l

back_of : (kind : Kind) (bytes out after : List ℕ) (n : ℕ) → Octets bytes → converted kind bytes out ≡ went after n
    → (again : List ℕ) → n ≤ length again → converted (turned kind) (take n after) again ≡ went (bytes ++ drop n again) n
back_of (Histogram model) bytes out after n b e again room =
    let s = sound (Histogram model) bytes out after n e in
    back_again (Histogram model) bytes out after n e again room (counters_pass model bytes b s) (counters_back model bytes b s) (counters_length model bytes s)
back_of (Queue model) bytes out after n b e again room =
    let s = sound (Queue model) bytes out after n e in
    back_again (Queue model) bytes out after n e again room (energies_pass model bytes b s) (energies_back model bytes b s) (energies_length model bytes s)

-- ---- what a writer wrote
-- where no STORE holds, only ROOM is left
left_room : (stored : Bool) (other bytes : List ℕ) → stored ≡ false
    → by_rows (room_row other bytes ∷ []) (written_to other bytes) ≡ by_rows (row STORE stored ∷ room_row other bytes ∷ []) (written_to other bytes)
left_room stored other bytes e = rw e

doubles : (energies : List Float) → AllF64 energies → Doubles energies
doubles [] d = tt
doubles (energy ∷ rest) d = (d.0, doubles rest d.1)

module _ (model : Model) (counters out after : List ℕ) (n : ℕ) (fit : Words counters) (e : write_counters model counters out ≡ went after n) (other : List ℕ) where
  counters_converted : converted (Histogram model) (take n after) other ≡ write_counters (other_model model) counters other
  unfolding write_counters
  counters_converted =
      let w = wrote (write_counters_rows model counters out) out (counters_record model counters) after n e in
      let fits = not_held STORE (write_counters_rows model counters out) w.passed in
      let thousand = eqb-true (length counters) bins (not-false (is_histogram counters) fits) in
      ap (λ (l : List ℕ). converted (Histogram model) l other) w.first
      ∙ behind (Histogram model) (counters_record model counters) other (written_passes model counters thousand)
      ∙ ap (λ (l : List ℕ). by_rows (room_row other l ∷ []) (written_to other l)) (counters_written_lem model counters thousand fit)
      ∙ left_room (not (is_histogram counters)) other (counters_record (other_model model) counters) fits

module _ (model : Model) (s : Stored) (out after : List ℕ) (n : ℕ) (d : AllF64 (held_of s)) (e : write_energies model s out ≡ went after n) (other : List ℕ) where
  energies_converted : converted (Queue model) (take n after) other ≡ write_energies (other_model model) s other
  unfolding write_energies
  energies_converted =
      let maximum = s.queue.maximum in
      let held = held_of s in
      let w = wrote (write_energies_rows model s out) out (energies_record model maximum held) after n e in
      let fits = not_held STORE (write_energies_rows model s out) w.passed in
      let both = (and-eq-true_iff (suits s.queue (length s.store)) (none_below held)).0 (not-false (suits s.queue (length s.store) && none_below held) fits) in
      let f = suited s.queue (length s.store) both.0 in
      let few : length held ≤ maximum = omega (arith, f.full, held_number s.queue s.store) in
      ap (λ (l : List ℕ). converted (Queue model) l other) w.first
      ∙ behind (Queue model) (energies_record model maximum held) other (queue_passes model maximum held f.most few (doubles held d) f.least both.1)
      ∙ ap (λ (l : List ℕ). by_rows (room_row other l ∷ []) (written_to other l)) (energies_written_lem model maximum held f.most few (doubles held d))
      ∙ left_room (not (suits s.queue (length s.store) && none_below held)) other (energies_record (other_model model) maximum held) fits

pub conversion_keeps : ConversionKeeps
conversion_keeps = record {
  counters =
      λ model bytes out after n b e store.
      ap (λ (l : List ℕ). read_counters (other_model model) l store) (made (Histogram model) bytes out after n e).first
      ∙ counters_kept model bytes b (sound (Histogram model) bytes out after n e) store;
  energies =
      λ model bytes out after n b e store.
      ap (λ (l : List ℕ). read_energies (other_model model) l store) (made (Queue model) bytes out after n e).first
      ∙ energies_kept model bytes b (sound (Queue model) bytes out after n e) store;
  back = back_of;
  counters_written = counters_converted;
  energies_written = energies_converted;
}

-- ---- a kind and its number
known_by : (kind : Kind) → known_of (kind_number kind) ≡ Some kind
known_by (Histogram Ours) = refl
known_by (Histogram Third) = refl
known_by (Queue Ours) = refl
known_by (Queue Third) = refl

-- a kind that is found in a list is found by its number
found : (asked : ℕ) (kind : Kind) (list : List Kind) → known_among asked list ≡ Some kind → asked ≡ kind_number kind
found asked kind [] e = let z : ◌≡◌ {A = ℕ} 0 1 = cc in absurd (omega arith)
found asked kind (first ∷ rest) e = go (eqb asked (kind_number first)) refl e (found asked kind rest)
  where
    go : (b : Bool) → eqb asked (kind_number first) ≡ b → cond b (Some first) (known_among asked rest) ≡ Some kind
        → (known_among asked rest ≡ Some kind → asked ≡ kind_number kind) → asked ≡ kind_number kind
    go true h k later = let same : first ≡ kind = cc in eqb-true asked (kind_number first) h ∙ ap kind_number same
    go false h k later = later k

-- kinds of one number are one kind
one_kind : (kind asked : Kind) → kind_number kind ≡ kind_number asked → asked ≡ kind
one_kind kind asked e =
    let both : Some kind ≡ Some asked = sym (known_by kind) ∙ ap known_of e ∙ known_by asked in
    cc

pub four_kinds : FourKinds
four_kinds = record {
  known = known_by;
  no_other = λ asked kind e. found asked kind kinds e;
  apart =
      λ kind asked bytes e different.
      let f = framed kind bytes e in
      rw (
        le-ltb (length bytes) head_width f.long,
        ne_eqb (kind_in bytes) (kind_number asked) (λ same. different (one_kind kind asked (sym f.kind_is ∙ same))),
      );
}
