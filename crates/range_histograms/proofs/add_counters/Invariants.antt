use Rattle.std.proofs.Common.{◌≡◌}
use Rattle.history_histogram.proofs.Sums.{sums_first}
use Rattle.range_histograms.proofs.add_counters.Given as goal

abbrev pub invariant-loop-bin : goal.invariant-loop-bin
invariant-loop-bin l = l.added ≡ sums_first l.bin l.initial.added l.counters
