use Rattle.std.proofs.Common.{◌≡◌, ◌+◌, ◌≤◌, drop}
use Rattle.gate.specs.Inner.{counted_from}
use Rattle.gate.proofs.kept.add_blocks.Given as goal

abbrev pub invariant-loop-energy : goal.invariant-loop-energy
invariant-loop-energy l =
    (l.count ≤ l.initial.count + l.energy-index)
    × (counted_from l.threshold l.count (drop l.energy-index l.energies) ≡ counted_from l.threshold l.initial.count l.energies)
