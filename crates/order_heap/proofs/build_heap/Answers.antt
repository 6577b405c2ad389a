-- `order_heap::build_heap` meets its contract: from the middle on no place has a child, and each turn lets one more energy sink. Assumes nothing.
use Prim.Native.Nat.{◌/◌}
use mathlib.Core.Path.{refl}
use lib.Dec.{T}
use lib.ListN.{length}
use lib.Ieee.Positive.{above}
use Rattle.order_rules.specs.Arrangement.{unmoved, after}
use Rattle.order_rules.proofs.Perms.{all_perm}
use Rattle.order_heap.proofs.Heap.{heap_start}
use Rattle.order_heap.proofs.build_heap.Goals as goal

pub loop-from-init : goal.loop-from-init
loop-from-init c =
    let l = c.args.part.now in
    (c.requires, record { same = unmoved l; heap = heap_start l (length l / 2) refl })

pub loop-from-preserved : goal.loop-from-preserved
loop-from-preserved c =
    let kept = c.loop-from.invariant in
    let sunk = c.sift.ensures in
    (all_perm (λ x. T (above x)) sunk.same kept.0, record { same = after kept.1.same sunk.same; heap = sunk.heap })
