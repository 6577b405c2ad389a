use Rattle.std.proofs.Common.{◌≡◌, drop}
use Rattle.gate.specs.Inner.{summed_from}
use Rattle.gate.proofs.kept.add_energies.Given as goal

abbrev pub invariant-loop-energy : goal.invariant-loop-energy
invariant-loop-energy l = summed_from l.threshold l.sum (drop l.energy-index l.energies) ≡ summed_from l.threshold l.initial.sum l.energies
