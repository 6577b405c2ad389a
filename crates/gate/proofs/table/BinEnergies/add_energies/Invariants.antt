use Rattle.std.proofs.Common.{◌≡◌, ◌+◌, drop}
use Rattle.gate.specs.Inner.{sum_from}
use Rattle.gate.proofs.table.BinEnergies.add_energies.Given as goal

abbrev pub invariant-loop-i : goal.invariant-loop-i
invariant-loop-i l = sum_from l.sum (l.first + l.i) (drop l.i l.blocks) ≡ sum_from l.initial.sum l.first l.blocks
