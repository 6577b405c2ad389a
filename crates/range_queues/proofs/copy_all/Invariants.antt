use Rattle.std.proofs.Common.{◌≡◌, ◌+◌, length, drop}
use lib.Seq.{sets}
use Rattle.range_queues.specs.Inner.{held_in}
use Rattle.range_queues.proofs.copy_all.Given as goal

abbrev pub invariant-loop-entry : goal.invariant-loop-entry
invariant-loop-entry l =
    (length l.work ≡ length l.initial.work)
    × (l.at + length (held_in l.energies (drop l.entry-index l.entries)) ≡ length (held_in l.energies l.entries))
    × (sets l.work l.at (held_in l.energies (drop l.entry-index l.entries)) ≡ sets l.initial.work 0 (held_in l.energies l.entries))
