use Rattle.std.proofs.Common.{◌≡◌, drop}
use Rattle.history_set.specs.Set.{any_outside}
use Rattle.history_set.proofs.set.any_outside.Given as goal

abbrev pub invariant-loop-entry : goal.invariant-loop-entry
invariant-loop-entry l = any_outside l.counters l.energies (drop l.entry-index l.entries) ≡ any_outside l.counters l.energies l.entries
