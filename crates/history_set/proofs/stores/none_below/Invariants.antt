use Rattle.std.proofs.Common.{◌≡◌, ◌&&◌, drop}
use Rattle.history_set.specs.Set.{none_below}
use Rattle.history_set.proofs.stores.none_below.Given as goal

abbrev pub invariant-loop-energy : goal.invariant-loop-energy
invariant-loop-energy l = l.fine && none_below (drop l.energy-index l.held) ≡ none_below l.held
