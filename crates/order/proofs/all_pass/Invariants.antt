use Rattle.std.proofs.Common.{length}
use Rattle.order.proofs.Runs.{Looked}
use Rattle.order.proofs.all_pass.Given as goal

abbrev pub invariant-loop-rest : goal.invariant-loop-rest
invariant-loop-rest g l = Looked (goal.F-post g l.test) l.energies l.rest

abbrev pub decreases-loop-rest : goal.decreases-loop-rest
decreases-loop-rest g l = length l.rest
