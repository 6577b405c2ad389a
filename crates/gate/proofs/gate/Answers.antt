-- `gate::gate` meets its contract: what refuses the set, or what its blocks and those left at or above the threshold come to. Assumes nothing.
use Rattle.std.proofs.lemmas.Result.{err_from_is_err_and}
use Rattle.std.proofs.Common.{◌∙◌}
use Rattle.history_set.specs.Lent.{lent}
use Rattle.gate.proofs.Asked.{sums_told}
use Rattle.gate.proofs.Gating.{gate_refused, gate_asked}
use Rattle.gate.proofs.gate.Goals as goal

pub returns-in_err-all : goal.returns-in_err-all
returns-in_err-all c = let p = err_from_is_err_and c.from_residual.result c.from_residual.ensures.1 in rw (p.1, p.2) (gate_refused (lent c.args.set) _ c.in_err-all.ensures)

pub all_gated-left-requires : goal.all_gated-left-requires
all_gated-left-requires c = (sums_told (lent c.args.set) c.in_ok-all.all c.in_ok-all.ensures).0

pub returns : goal.returns
returns c =
    c.answer.ensures
    ∙ gate_asked (lent c.args.set) c.in_ok-all.all c.all_gated-left.result c.threshold_of.result c.in_ok-all.ensures c.threshold_of.ensures c.all_gated-left.ensures
