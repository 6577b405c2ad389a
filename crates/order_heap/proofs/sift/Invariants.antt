use Prim.Native.Nat.{◌-◌}
use lib.ListN.{length}
use Rattle.order_heap.proofs.Heap.{Sinking}
use Rattle.order_heap.proofs.sift.Given as goal

abbrev pub invariant-loop-at : goal.invariant-loop-at
invariant-loop-at l = Sinking l.from l.at l.initial.heap l.heap

abbrev pub decreases-loop-at : goal.decreases-loop-at
decreases-loop-at l = length l.initial.heap - l.at
