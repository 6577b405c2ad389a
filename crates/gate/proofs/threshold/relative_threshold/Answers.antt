-- `threshold::relative_threshold` meets its contract: what refuses the set that is this history, or the threshold of its blocks. Assumes nothing.
use Rattle.std.proofs.lemmas.Result.{err_from_is_err_and}
use Rattle.std.proofs.Common.{◌∙◌}
use Rattle.gate.proofs.Alone.{relative_refused, relative_asked}
use Rattle.gate.proofs.threshold.relative_threshold.Goals as goal

pub returns-in_err-totals : goal.returns-in_err-totals
returns-in_err-totals c = let p = err_from_is_err_and c.from_residual.result c.from_residual.ensures.1 in rw (p.1, p.2) (relative_refused c.args.entry c.args.counters.now c.args.energies.now _ c.in_err-totals.ensures)

pub returns : goal.returns
returns c = c.level.ensures ∙ relative_asked c.args.entry c.args.counters.now c.args.energies.now c.in_ok-totals.totals c.in_ok-totals.ensures
