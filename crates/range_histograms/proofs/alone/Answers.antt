-- `range_histograms::alone` meets its contract, shape by shape. Assumes nothing.
use mathlib.Core.Path.{sym, ap, subst, ◌∙◌}
use mathlib.Core.List.{[]}
use Prim.Native.Nat.{◌≤◌}
use lib.ListN.{length}
use Rattle.base_refusals.specs.Outcome.{Said, says}
use Rattle.history_histogram.specs.Histogram.{empty}
use Rattle.history_set.specs.declared.set.Shape.{Shape}
use Rattle.history_set.specs.Set.{counters_end, shape_shows}
use Rattle.range_ranks.specs.Span.{Span}
use Rattle.range_one.proofs.Answers.{span_there}
use Rattle.range_histograms.specs.Counted.{with_history, counted_span}
use Rattle.range_histograms.proofs.Single.{counters_alone, empty_nothing}
use Rattle.range_histograms.proofs.alone.Goals as goal

pub returns-in-Histogram : goal.returns-in-Histogram
returns-in-Histogram c =
    let a = c.args in
    let start = c.in-Histogram.start in
    let inside = subst (λ (s : Shape). counters_end s ≤ length a.counters.now) c.in-Histogram.is c.requires in
    c.of_counters.ensures
    ∙ ap {B = Said Span} says (span_there a.counters.now start inside
    ∙ ap counted_span (counters_alone a.counters.now start inside)
    ∙ ap (λ (s : Shape). counted_span (with_history empty (shape_shows a.counters.now [] s))) (sym c.in-Histogram.is))

pub returns-in-Queue : goal.returns-in-Queue
returns-in-Queue c =
    let a = c.args in
    ap {B = Said Span} says (empty_nothing ∙ ap (λ (s : Shape). counted_span (with_history empty (shape_shows a.counters.now [] s))) (sym c.in-Queue.is))
