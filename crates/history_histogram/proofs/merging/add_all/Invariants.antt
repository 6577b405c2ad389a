use Rattle.std.proofs.Common.{◌≡◌}
use Rattle.history_histogram.proofs.Sums.{sums_first}
use Rattle.history_histogram.proofs.merging.add_all.Given as goal

abbrev pub invariant-loop-bin : goal.invariant-loop-bin
invariant-loop-bin l = l.into ≡ sums_first l.bin l.initial.into l.from
