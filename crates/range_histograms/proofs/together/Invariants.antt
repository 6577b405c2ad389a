use Rattle.std.proofs.Common.{◌≡◌, ◌*◌, [], drop}
use Rattle.history_histogram.specs.Histogram.{largest_count, empty}
use Rattle.history_set.specs.Set.{all_show}
use Rattle.range_histograms.specs.Counted.{AtMost, added_to}
use Rattle.range_histograms.proofs.together.Given as goal

abbrev pub invariant-loop-entry : goal.invariant-loop-entry
invariant-loop-entry l = record {
  few : AtMost (l.entry-index * largest_count) l.added;
  same : added_to l.added (all_show l.counters [] (drop l.entry-index l.entries)) ≡ added_to empty (all_show l.counters [] l.entries);
}
