-- `energy::gated_energy` meets its contract: the mean of what the gate answers, or the same refusal. Assumes nothing.
use Rattle.std.proofs.lemmas.Result.{err_from_is_err_and}
use Rattle.base_refusals.specs.Outcome.{says}
use Rattle.history_set.specs.Lent.{lent}
use Rattle.gate.proofs.Means.{mean_said_lem}
use Rattle.gate.proofs.energy.gated_energy.Goals as goal

pub returns-in_err-gated : goal.returns-in_err-gated
returns-in_err-gated c = let p = err_from_is_err_and c.from_residual.result c.from_residual.ensures.1 in rw (p.1, p.2) (mean_said_lem (lent c.args.set) _ c.in_err-gated.ensures)

pub returns : goal.returns
returns c = let of_gate = mean_said_lem (lent c.args.set) (says c.in_ok-gated.gated) c.in_ok-gated.ensures in cc
