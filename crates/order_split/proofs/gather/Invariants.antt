use Rattle.order_split.specs.Inner.{Parting}
use Rattle.order_split.proofs.gather.Given as goal

abbrev pub invariant-loop-i : goal.invariant-loop-i
invariant-loop-i g l = Parting l.pivot l.low l.i l.initial.part l.part
