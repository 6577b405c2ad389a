-- `order_heap::larger_child` meets its contract: the right child is compared where there is one. Assumes nothing.
use Rattle.order_heap.proofs.Heap.{left_only, right_larger, left_larger}
use Rattle.order_heap.proofs.larger_child.Goals as goal

pub returns-then-right-heap : goal.returns-then-right-heap
returns-then-right-heap c = left_only c.args.heap.now c.requires.1 c.args.parent c.requires.0 c.if-right-heap.true

pub returns-then-heap-left : goal.returns-then-heap-left
returns-then-heap-left c = right_larger c.args.heap.now c.requires.1 c.args.parent c.requires.0 c.if-right-heap.false c.if-heap-left.true

pub returns : goal.returns
returns c = left_larger c.args.heap.now c.requires.1 c.args.parent c.requires.0 c.if-right-heap.false c.if-heap-left.false
