use Rattle.order_rules.specs.Arrangement.{Above}
use Rattle.order_heap.specs.Inner.{Heaped}
use Rattle.order_heap.proofs.build_heap.Given as goal

abbrev pub invariant-loop-from : goal.invariant-loop-from
invariant-loop-from l = Above l.part × Heaped l.from l.initial.part l.part
