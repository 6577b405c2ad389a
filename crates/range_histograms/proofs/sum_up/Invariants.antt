use Rattle.std.proofs.Common.{◌≡◌, ◌*◌, ◌≤◌, drop}
use Rattle.gate.specs.Totals.{none, bins_from}
use Rattle.range_histograms.specs.Counted.{most_in_bin}
use Rattle.range_histograms.proofs.sum_up.Given as goal

abbrev pub invariant-loop-bin : goal.invariant-loop-bin
invariant-loop-bin l = record {
  few : l.count ≤ l.bin * most_in_bin;
  same : bins_from (record { count = l.count; sum = l.sum }) l.bin (drop l.bin l.added.counters.now) ≡ bins_from none 0 l.added.counters.now;
}
