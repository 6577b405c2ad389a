-- `calls::most` meets its contract: at eight channels a run takes half a batch. Assumes nothing.
use native.Mathlib.Omega.{arith}
use Rattle.true_peak.proofs.Turns.{some_runs, few_runs, runs_fit}
use Rattle.true_peak.proofs.calls.most.Goals as goal

pub overflow_mul-result-2 : goal.overflow_mul-result-2
overflow_mul-result-2 c = omega (arith, few_runs c.args.channels)

pub returns : goal.returns
returns c = (omega (arith, some_runs c.args.channels c.requires.0 c.requires.1), runs_fit c.args.channels)
