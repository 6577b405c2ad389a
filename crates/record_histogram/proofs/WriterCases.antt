-- How long a histogram's record is, and that a head and then the counters' bytes are the record. Assumes nothing.
use mathlib.Core.Path.{◌≡◌, ap, ◌∙◌}
use mathlib.Core.List.{List, ◌++◌}
use Prim.Native.Nat.{ℕ, ◌+◌, ◌≤◌}
use native.Mathlib.Omega.{arith}
use lib.ListN.{length, drop}
use lib.Seq.{sets}
use Rattle.bins.specs.Bin.{bins}
use Rattle.record_layout.specs.declared.Model.{Model}
use Rattle.record_layout.specs.declared.Kind.TheVariants.{Histogram}
use Rattle.record_layout.specs.Layout.{histogram_length, head_width, count_width, order_of, entry_bytes, with_head}
use Rattle.record_layout.proofs.Heads.{record_length_lem, record_put}
use Rattle.record_layout.proofs.Runs.{all_length}
use Rattle.record_histogram.specs.Record.{record_length}
use Rattle.record_histogram.specs.Writing.{counters_record}

module _ (model : Model) (counters : List ℕ) (h : length counters ≡ bins) where
  pub body_length : length (entry_bytes (Histogram model) counters) ≡ 4000
  body_length = omega (arith, all_length (order_of (Histogram model)) count_width counters)

  pub whole_length : length (counters_record model counters) ≡ record_length
  unfolding counters_record
  whole_length = record_length_lem (Histogram model) (entry_bytes (Histogram model) counters) ∙ ap (λ (n : ℕ). head_width + n) body_length

  pub histogram_put : (out : List ℕ) → record_length ≤ length out
      → sets (with_head (Histogram model) histogram_length out) head_width (entry_bytes (Histogram model) counters)
      ≡ counters_record model counters ++ drop (length (counters_record model counters)) out
  unfolding counters_record
  histogram_put out l =
      record_put (Histogram model) histogram_length out (entry_bytes (Histogram model) counters) (omega (arith, body_length)) (omega (arith, body_length, l))
