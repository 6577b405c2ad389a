use Rattle.std.proofs.Common.{◌≡◌, ◌+◌, ◌*◌, drop}
use Rattle.true_peak_interp.specs.Phase.{summed, phase}
use Rattle.true_peak_interp.proofs.phase.Given as goal

abbrev pub invariant-loop-i : goal.invariant-loop-i
invariant-loop-i l = summed l.taps l.factor (l.i * l.factor + l.f) l.sum (drop l.i l.samples) ≡ phase l.taps l.factor l.samples l.f
