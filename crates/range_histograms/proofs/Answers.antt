-- What the range over the histograms of a set comes to. Assumes nothing.
use mathlib.Core.Path.{◌≡◌}
use Prim.Native.Nat.{ℕ}
use Rattle.base_refusals.specs.Outcome.{answers, refusal, said_by}
use Rattle.base_refusals.specs.Rows.{number_of}
use Rattle.base_refusals.proofs.Rows.{stopped, goes}
use Rattle.history_histogram.specs.Histogram.{empty}
use Rattle.history_set.specs.Set.{Histories, histories_of, set_rows}
use Rattle.range_histograms.specs.Counted.{added_to, counted_span, histogram_range}
pub use Rattle.range_one.proofs.Answers.{counted_none, counted_some, left_none}

module _ (h : Histories) where
  pub histogram_refused : (n : ℕ) → n ≡ number_of (set_rows h) → (n ≡ 0 → ⊥) → refusal n ≡ said_by (histogram_range h)
  unfolding histogram_range
  histogram_refused n e p = (stopped (answers (counted_span (added_to empty (histories_of h)))) (set_rows h) tt n e p).says

  pub histogram_asked : number_of (set_rows h) ≡ 0 → histogram_range h ≡ answers (counted_span (added_to empty (histories_of h)))
  unfolding histogram_range
  histogram_asked e = goes (answers (counted_span (added_to empty (histories_of h)))) (set_rows h) e
