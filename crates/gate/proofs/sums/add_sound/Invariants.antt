use Rattle.std.proofs.Common.{◌≡◌, ◌&&◌, drop}
use Rattle.history_set.specs.Set.{none_below}
use Rattle.gate.specs.Inner.{sum_onto}
use Rattle.gate.proofs.sums.add_sound.Given as goal

abbrev pub invariant-loop-energy : goal.invariant-loop-energy
invariant-loop-energy l =
    (l.sound && none_below (drop l.energy-index l.energies) ≡ none_below l.energies)
    × (sum_onto l.sum (drop l.energy-index l.energies) ≡ sum_onto l.initial.sum l.energies)
