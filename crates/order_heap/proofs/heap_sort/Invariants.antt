use Rattle.order_heap.proofs.Heap.{Draining}
use Rattle.order_heap.proofs.heap_sort.Given as goal

abbrev pub invariant-loop-left : goal.invariant-loop-left
invariant-loop-left l = Draining l.left l.initial.part l.part
