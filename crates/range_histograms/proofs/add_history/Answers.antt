-- `range_histograms::add_history` meets its contract, shape by shape. Assumes nothing.
use Rattle.std.proofs.Common.{ℕ, ◌+◌, ◌-◌, List, [], take, drop, get_or, sym, ap, ◌∙◌, arith}
use Rattle.bins.specs.Bin.{bins}
use Rattle.history_histogram.specs.Histogram.{largest_count, sums}
use Rattle.history_set.specs.declared.set.Shape.{Shape}
use Rattle.history_set.specs.Set.{shape_shows}
use Rattle.history_set.proofs.Slices.{counters_slice}
use Rattle.range_histograms.specs.Counted.{AtMost, with_history}
use Rattle.range_histograms.proofs.Adding.{sums_most, part_most}
use Rattle.range_histograms.proofs.add_history.Goals as goal

pub returns-in-Histogram : goal.returns-in-Histogram
returns-in-Histogram c =
    let counters = c.args.counters.now in
    let start = c.in-Histogram.start in
    let part = take (start + bins - start) (drop start counters) in
    let few : AtMost largest_count counters = λ bin. omega (arith, c.type_inv.counters bin) in (
      c.add_counters.ensures
          ∙ ap (sums c.args.added.now) (sym (counters_slice counters start))
          ∙ sym (ap (λ (s : Shape). with_history c.args.added.now (shape_shows counters [] s)) c.in-Histogram.is),
      λ (most : ℕ) before (bin : ℕ).
          omega (arith, ap (λ (l : List ℕ). get_or l bin 0) c.add_counters.ensures, sums_most most c.args.added.now part before (part_most counters start (start + bins - start) few) bin),
    )
