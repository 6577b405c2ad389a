use Rattle.samples.proofs.Fill.{Filling}
use Rattle.samples.proofs.fills.fill.Given as goal

abbrev pub invariant-loop-i : goal.invariant-loop-i
invariant-loop-i g l = Filling g.S.Sample.in_f64 l.from l.initial.stretch l.stretch l.i
