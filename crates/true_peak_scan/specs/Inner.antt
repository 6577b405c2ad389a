-- What the inner functions count on: a table holds so many phases of so many taps, and a window the samples that they look at.
use Rattle.std.specs.Prelude.{ℕ, ◌*◌, ◌≤◌}
use Rattle.true_peak_interp.specs.Interp.{twofold}

pub record Table (factor taps : ℕ) : Type 0 where
  pub few : factor ≤ 48
  pub all : taps * factor ≤ 48
  pub window : taps ≤ twofold.taps
