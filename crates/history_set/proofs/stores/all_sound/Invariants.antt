use Rattle.std.proofs.Common.{◌≡◌, drop}
use Rattle.history_set.specs.Set.{all_sound}
use Rattle.history_set.proofs.stores.all_sound.Given as goal

abbrev pub invariant-loop-entry : goal.invariant-loop-entry
invariant-loop-entry l = all_sound l.energies (drop l.entry-index l.entries) ≡ all_sound l.energies l.entries
