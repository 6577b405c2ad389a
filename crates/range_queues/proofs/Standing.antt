-- Where the energies of an entry stand: those of a queue in two parts of the lent energies, those of a histogram nowhere. Assumes nothing.
use mathlib.Core.Path.{◌≡◌, refl, sym}
use mathlib.Core.Bool.{true}
use mathlib.Core.List.{List, []}
use Prim.Native.Nat.{◌≤◌}
use lib.ListN.{length}
use lib.Ieee.{Float}
use Rattle.history_queue.specs.Queue.{in_parts}
use Rattle.history_queue.proofs.Standing.{Within, nowhere_within, parts_within}
use Rattle.history_set.specs.declared.set.Shape.{Shape}
use Rattle.history_set.specs.declared.set.Shape.TheVariants.{Histogram, Queue as Queue-at}
use Rattle.history_set.specs.Set.{store_end, shape_shows}
use Rattle.history_set.proofs.Slices.{held_slices}
use Rattle.range_queues.specs.Listed.{held_by}
use Rattle.range_queues.specs.Inner.{suits_at, parts_at}

-- the places of an entry's parts are within the energies
pub within_parts : (energies : List Float) (shape : Shape) → Within (parts_at shape (length energies)) (length energies)
within_parts energies (Histogram start) = nowhere_within (length energies)
within_parts energies (Queue-at start queue) = parts_within queue start (length energies) (parts_at (Queue-at start queue) (length energies)) refl

-- and what stands there is what the entry holds, where it is inside and suits its store
pub stand_in : (energies : List Float) (shape : Shape) → store_end shape ≤ length energies → suits_at shape ≡ true
    → in_parts (parts_at shape (length energies)) energies ≡ held_by (shape_shows [] energies shape)
stand_in energies (Histogram start) k h = refl
stand_in energies (Queue-at start queue) k h = sym (held_slices energies start queue k h)
