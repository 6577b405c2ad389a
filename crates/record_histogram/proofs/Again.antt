-- Reading what was written gives back every counter; writing what was read gives back the same bytes; so a record has one reading, whatever the store held,
-- and its bytes are determined by its counters. Assumes nothing.
use mathlib.Core.Path.{◌≡◌, sym, ap, ◌∙◌}
use mathlib.Core.List.{List}
use Prim.Native.Nat.{ℕ, ◌+◌, ◌*◌, ◌^◌, ◌<◌}
use native.Mathlib.Omega.{arith}
use borrow.Author.Tests.{eq-eqb}
use lib.ListN.{length, get_or, length-drop}
use lib.Seq.{get_or-drop}
use Rattle.base_refusals.specs.Outcome.{went, done}
use Rattle.base_refusals.specs.Rows.{number_of}
use Rattle.bins.specs.Bin.{bins}
use Rattle.record_layout.specs.declared.Model.{Model}
use Rattle.record_layout.specs.declared.Kind.TheVariants.{Histogram}
use Rattle.record_layout.specs.Layout.{kind_width, head_width, count_width, histogram_length, order_of, body_in, numbers_in, entry_bytes, frame_rows, record_of}
use Rattle.record_layout.proofs.Frames.{framed, passes}
use Rattle.record_layout.proofs.Again.{record_body, record_passes, record_again, whole_read, whole_written}
use Rattle.record_histogram.specs.Record.{counters_in, read_counters}
use Rattle.record_histogram.proofs.Cases.{framed_length, read_went, read_by_frame}
use Rattle.record_histogram.specs.Writing.{counters_record}
use Rattle.record_histogram.proofs.WriterCases.{body_length}

-- every counter fits its field
abbrev pub Counting : List ℕ → Type 0
Counting counters = (bin : ℕ) → get_or counters bin 0 < 2 ^ 32

-- ---- what was written is read
module _ (model : Model) (counters : List ℕ) (h : length counters ≡ bins) where
  pub written_passes : number_of (frame_rows (Histogram model) (counters_record model counters)) ≡ 0
  unfolding counters_record
  written_passes =
      let body = entry_bytes (Histogram model) counters in
      passes (Histogram model) (record_of (Histogram model) body)
      (record_passes (Histogram model) body (omega (arith, body_length model counters h)) (eq-eqb (kind_width + length body) histogram_length (omega (arith, body_length model counters h))))

  pub counters_again : Counting counters → counters_in model (counters_record model counters) ≡ counters
  unfolding counters_record counters_in
  counters_again fit =
      ap (numbers_in (order_of (Histogram model)) count_width bins) (record_body (Histogram model) (entry_bytes (Histogram model) counters))
      ∙ ap (λ (n : ℕ). numbers_in (order_of (Histogram model)) count_width n (entry_bytes (Histogram model) counters)) (sym h)
      ∙ whole_read (order_of (Histogram model)) count_width counters fit

  pub read_what_was_written : Counting counters → (store : List ℕ) → length store ≡ bins → read_counters model (counters_record model counters) store ≡ went counters done
  read_what_was_written fit store s =
      read_went model (counters_record model counters) store written_passes s ∙ ap (λ (l : List ℕ). went l done) (counters_again fit)

-- ---- what is read was so written
pub write_what_was_read : (model : Model) (bytes : List ℕ) → ((i : ℕ) → get_or bytes i 0 < 256) → number_of (frame_rows (Histogram model) bytes) ≡ 0 → counters_record model (counters_in model bytes) ≡ bytes
unfolding counters_record counters_in
write_what_was_read model bytes b e =
    let n : length (body_in bytes) ≡ count_width * bins = omega (arith, framed_length model bytes e, length-drop head_width bytes) in
    ap (record_of (Histogram model)) (whole_written (order_of (Histogram model)) count_width bins (body_in bytes) (λ i. rw (get_or-drop head_width bytes i 0) (b (head_width + i))) n)
    ∙ record_again (Histogram model) bytes b (framed (Histogram model) bytes e)

-- ---- one reading: what the store held plays no part
pub one_reading : (model : Model) (bytes store other : List ℕ) → length store ≡ bins → length other ≡ bins → read_counters model bytes store ≡ read_counters model bytes other
one_reading model bytes store other s o = read_by_frame model bytes store s ∙ sym (read_by_frame model bytes other o)

-- records of the same bytes are of the same counters
pub same_record : (model : Model) (a b : List ℕ) → length a ≡ bins → length b ≡ bins → Counting a → Counting b → counters_record model a ≡ counters_record model b → a ≡ b
same_record model a b m n f g e = sym (counters_again model a m f) ∙ ap (counters_in model) e ∙ counters_again model b n g
