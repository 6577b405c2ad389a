use Rattle.std.proofs.Common.{◌≡◌, ◌*◌, ◌≤◌}
use Rattle.history_histogram.specs.Histogram.{largest_count}
use Rattle.gate.specs.Totals.{on_top_of}
use Rattle.gate.specs.Inner.{stretch, onwards, Steady}
use Rattle.gate.proofs.table.BinEnergies.add_counters.Given as goal

abbrev pub invariant-loop-i : goal.invariant-loop-i
invariant-loop-i l =
    (l.totals.count ≤ l.i * stretch * largest_count)
    × Steady l.totals.sum
    × (onwards l.totals (l.i * stretch) l.counters ≡ onwards (on_top_of l.sum) l.start l.counters)
