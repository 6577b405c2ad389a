-- `order_heap::sift` meets its contract. The invariant is `Sinking`: only the children of the present place may be above it. The measure is the places after it.
-- Assumes nothing.
use native.Mathlib.Omega.{arith}
use mathlib.Core.Path.{refl}
use Rattle.order_heap.proofs.Heap.{sink_start, sink_leaf, sink_rests, sink_on}
use Rattle.order_heap.proofs.sift.Goals as goal

pub loop-at-init : goal.loop-at-init
loop-at-init c = sink_start c.args.from c.args.heap.now c.requires.0 c.requires.1

pub returns-then-y-x : goal.returns-then-y-x
returns-then-y-x c = sink_rests c.loop-at.invariant c.larger_child-child.result c.larger_child-child.ensures c.if-y-x.true

pub loop-at-preserved : goal.loop-at-preserved
loop-at-preserved c =
    sink_on c.loop-at.invariant c.larger_child-child.result c.larger_child-child.ensures c.if-y-x.false _ refl

pub returns : goal.returns
returns c = sink_leaf c.loop-at.invariant (omega arith)
