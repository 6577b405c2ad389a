use Rattle.std.proofs.Common.{◌≡◌, ◌*◌, ◌≤◌, drop}
use Rattle.history_set.specs.Set.{all_show}
use Rattle.gate.specs.Totals.{most_blocks, none}
use Rattle.gate.specs.Inner.{Steady}
use Rattle.gate.specs.Gate.{all_gated}
use Rattle.gate.proofs.all_gated.Given as goal

abbrev pub invariant-loop-entry : goal.invariant-loop-entry
invariant-loop-entry l =
    Steady l.sum
    × (l.count ≤ l.entry-index * most_blocks)
    × (all_gated l.threshold (record { count = l.count; sum = l.sum }) (all_show l.set.counters.now l.set.energies.now (drop l.entry-index l.set.entries.now))
    ≡ all_gated l.threshold none (all_show l.set.counters.now l.set.energies.now l.set.entries.now))
