use Rattle.std.proofs.Common.{◌≡◌, ◌*◌, ◌≤◌, drop}
use Rattle.history_set.specs.Set.{all_sound, all_show}
use Rattle.gate.specs.Totals.{most_blocks, none}
use Rattle.gate.specs.Sums.{all_totals}
use Rattle.gate.proofs.sums.of_set.Given as goal

abbrev pub invariant-loop-entry : goal.invariant-loop-entry
invariant-loop-entry l =
    (l.count ≤ l.entry-index * most_blocks)
    × (all_sound l.set.energies.now (drop l.entry-index l.set.entries.now) ≡ all_sound l.set.energies.now l.set.entries.now)
    × (all_totals (record { count = l.count; sum = l.sum }) (all_show l.set.counters.now l.set.energies.now (drop l.entry-index l.set.entries.now))
    ≡ all_totals none (all_show l.set.counters.now l.set.energies.now l.set.entries.now))
