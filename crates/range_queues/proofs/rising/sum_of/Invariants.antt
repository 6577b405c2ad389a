use Rattle.std.proofs.Common.{◌≡◌, drop}
use Rattle.gate.specs.Totals.{none, energies_from}
use Rattle.range_queues.proofs.rising.sum_of.Given as goal

abbrev pub invariant-loop-energy : goal.invariant-loop-energy
invariant-loop-energy l = energies_from (record { count = l.energy-index; sum = l.sum }) (drop l.energy-index l.rising) ≡ energies_from none l.rising
