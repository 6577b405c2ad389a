use Rattle.std.proofs.Common.{◌≡◌, ◌*◌, ◌≤◌, drop}
use Rattle.history_queue.specs.Queue.{longest}
use Rattle.history_set.specs.Set.{all_sound}
use Rattle.range_queues.specs.Inner.{held_in, with_seen, seen_of}
use Rattle.range_queues.proofs.look.Given as goal

abbrev pub invariant-loop-entry : goal.invariant-loop-entry
invariant-loop-entry l =
    (l.seen.blocks ≤ l.entry-index * longest)
    × (all_sound l.energies (drop l.entry-index l.entries) ≡ all_sound l.energies l.entries)
    × (with_seen l.seen (held_in l.energies (drop l.entry-index l.entries)) ≡ seen_of (held_in l.energies l.entries))
