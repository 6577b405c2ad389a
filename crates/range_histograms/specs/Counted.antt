-- The range over histograms (01, step 9): "counters added bin by bin". What it is of the added counters stands in `range_one`.
use Rattle.std.specs.Prelude.{ℕ, List, [], ◌∷◌}
use Rattle.base_refusals.specs.Outcome.{Question, answers}
use Rattle.base_refusals.specs.Rows.{by_rows}
use Rattle.history_histogram.specs.Histogram.{empty, sums}
use Rattle.history_set.specs.Set.{History, counted, listed, Histories, histories_of, set_rows}
use Rattle.range_ranks.specs.Span.{Span}
pub use Rattle.range_one.specs.Counted.{most_in_bin, AtMost, ranked_in}
unfoldable pub use Rattle.range_one.specs.Counted.{blocks_in, running_from, first_past, left_in, gated_blocks, counted_span}

-- the counters of a history, and of all histories, added bin by bin. A queue has none
abbrev pub with_history : List ℕ → History → List ℕ
with_history counters (counted more) = sums counters more
with_history counters (listed energies) = counters

unfoldable pub added_to : List ℕ → List History → List ℕ
added_to counters [] = counters
added_to counters (history ∷ rest) = added_to (with_history counters history) rest

-- the range over the histograms of a set
unfoldable pub histogram_range : Histories → Question Span
histogram_range h = by_rows (set_rows h) (answers (counted_span (added_to empty (histories_of h))))
