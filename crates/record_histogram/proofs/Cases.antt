-- How long a histogram's record is that passes, and what its reading comes to behind the frame. Assumes nothing.
use mathlib.Core.Path.{◌≡◌, ap, ◌∙◌}
use mathlib.Core.List.{List}
use Prim.Native.Nat.{ℕ}
use native.Mathlib.Omega.{arith}
use borrow.Author.Tests.{eq-eqb, eqb-true}
use lib.ListN.{length}
use Rattle.base_refusals.specs.Outcome.{Outcome, went, NoValues, done, refusal, said_by}
use Rattle.base_refusals.specs.Rows.{number_of, by_rows}
use Rattle.bins.specs.Bin.{bins}
use Rattle.record_layout.specs.declared.Model.{Model}
use Rattle.record_layout.specs.declared.Kind.TheVariants.{Histogram}
use Rattle.record_layout.specs.Layout.{histogram_length, length_in, frame_rows, frame_of}
use Rattle.base_refusals.proofs.Rows.{Refuses, goes, rows_then}
use Rattle.base_refusals.proofs.Behind.{goes_on}
use Rattle.record_layout.proofs.Frames.{framed, stopped_there}
use Rattle.record_histogram.specs.Record.{record_length, counters_in, store_rows, read_counters}

-- bytes that pass are as many as a record has
pub framed_length : (model : Model) (bytes : List ℕ) → number_of (frame_rows (Histogram model) bytes) ≡ 0 → length bytes ≡ record_length
framed_length model bytes e =
    let f = framed (Histogram model) bytes e in
    omega (arith, f.long, f.length_is, eqb-true (length_in bytes) histogram_length f.can_be_lem)

-- 1,000 counters are a store that no row refuses, so that only the frame does
pub store_passes : (counters : List ℕ) → length counters ≡ bins → number_of (store_rows counters) ≡ 0
store_passes counters h = rw (eq-eqb (length counters) bins h)

pub read_by_frame : (model : Model) (bytes counters : List ℕ) → length counters ≡ bins → read_counters model bytes counters ≡ by_rows (frame_rows (Histogram model) bytes) (went (counters_in model bytes) done)
unfolding read_counters
read_by_frame model bytes counters h =
    let read : Outcome (List ℕ) NoValues = went (counters_in model bytes) done in
    rows_then read (frame_rows (Histogram model) bytes) (store_rows counters)
    ∙ ap (λ (o : Outcome (List ℕ) NoValues). by_rows (frame_rows (Histogram model) bytes) o) (goes read (store_rows counters) (store_passes counters h))

module _ (model : Model) (bytes counters : List ℕ) (e : number_of (frame_rows (Histogram model) bytes) ≡ 0) where
  pub read_behind : read_counters model bytes counters ≡ by_rows (store_rows counters) (went (counters_in model bytes) done)
  unfolding read_counters
  read_behind = goes_on (went (counters_in model bytes) done) (frame_rows (Histogram model) bytes) (store_rows counters) e

  pub read_went : length counters ≡ bins → read_counters model bytes counters ≡ went (counters_in model bytes) done
  read_went h = read_behind ∙ goes (went (counters_in model bytes) done) (store_rows counters) (store_passes counters h)

-- ---- a call that the frame stops
pub stopped_by_frame : (model : Model) (bytes counters : List ℕ) (n : ℕ) → refusal n ≡ said_by (frame_of (Histogram model) bytes) → Refuses (read_counters model bytes counters) counters n
unfolding read_counters
stopped_by_frame model bytes counters n e = stopped_there (went (counters_in model bytes) done) (Histogram model) bytes (store_rows counters) counters n e
