use Rattle.std.proofs.Common.{◌≡◌, ◌&&◌, ◌||◌, drop}
use Rattle.history_set.specs.Set.{none_below}
use Rattle.range_queues.specs.Listed.{any_nan}
use Rattle.range_queues.proofs.look_at.Given as goal

abbrev pub invariant-loop-energy : goal.invariant-loop-energy
invariant-loop-energy l =
    (l.fine && none_below (drop l.energy-index l.energies) ≡ none_below l.energies)
    × (l.nan || any_nan (drop l.energy-index l.energies) ≡ l.before.nan || any_nan l.energies)
