use Rattle.std.proofs.Common.{◌≡◌, ℕ, ◌<◌, get_or, length}
use Rattle.std.specs.Float.{nan}
use Rattle.true_peak_interp.specs.Phase.{phase}
use Rattle.true_peak_interp.proofs.phases.Given as goal

abbrev pub invariant-loop-f : goal.invariant-loop-f
invariant-loop-f g l = (length l.p-items ≡ g.row.FACTOR) × ((k : ℕ) → k < l.f → get_or l.p-items k nan ≡ phase l.taps g.row.FACTOR l.samples k)
