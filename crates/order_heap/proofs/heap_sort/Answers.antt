-- `order_heap::heap_sort` meets its contract. The invariant is `Draining`: before the place `left` stands a heap, and each energy from there on is
-- at least all before it. Assumes nothing.
use lib.Dec.{T}
use lib.Ieee.{nan}
use lib.Ieee.Positive.{above}
use Rattle.order_rules.specs.Arrangement.{after}
use Rattle.order_rules.proofs.Perms.{all_perm}
use Rattle.order_heap.proofs.Heap.{drain_start, drain_done, part_above, part_is_heap, drain_on}
use Rattle.order_heap.proofs.heap_sort.Goals as goal

pub loop-left-init : goal.loop-left-init
loop-left-init c =
    let built = c.build_heap in
    drain_start built.new.part (all_perm (λ x. T (above x)) built.ensures.same c.requires) built.ensures.heap

pub sift-requires : goal.sift-requires
sift-requires c =
    let turned = c.swap.ensures.by_index.3 nan in
    (part_above c.loop-left.invariant c.loop-left-test.true turned, part_is_heap c.loop-left.invariant c.loop-left-test.true turned)

pub loop-left-preserved : goal.loop-left-preserved
loop-left-preserved c = drain_on c.loop-left.invariant c.loop-left-test.true (c.swap.ensures.by_index.3 nan) c.sift.new.heap c.sift.ensures

pub returns : goal.returns
returns c =
    let done = drain_done c.loop-left.left _ c.loop-left.part c.loop-left-test.false c.loop-left.invariant in
    record { same = after c.build_heap.ensures.same done.same; rising = done.rising }
