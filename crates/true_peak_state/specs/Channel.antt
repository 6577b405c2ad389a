-- The true peak of one channel (01, step 6): "largest absolute phase so far, kept as f32; NaN never wins."
use Rattle.std.specs.Prelude.{List, [], ◌∷◌, ℕ, ◌-◌, take, Float}
use Rattle.true_peak_interp.specs.declared.Interp.{Interp}
use Rattle.true_peak_interp.specs.Interp.{twofold}
use Rattle.true_peak_interp.specs.Phase.{phases}
use Rattle.base_floats.specs.Largest.{largest}

-- How many samples a channel remembers: those before a frame's own that the interpolator with the most taps looks at.
abbrev pub past : ℕ
past = twofold.taps - 1

-- a channel's last samples, newest first, zeros before the start; and its peak
pub record Channel : Type 0 where
  pub history : List Float
  pub peak : Float

abbrev pub channel : List Float → Float → Channel
channel history peak = record { history = history; peak = peak }

-- one sample more: the phases at its frame may raise the peak, and the oldest sample is forgotten
unfoldable pub hear : Interp → Channel → Float → Channel
hear i ch x = record { history = take past (x ∷ ch.history); peak = largest ch.peak (phases i (x ∷ ch.history)) }

-- a channel's samples, one after another
unfoldable pub heard : Interp → Channel → List Float → Channel
unfolding hear
heard i ch [] = ch
heard i ch (x ∷ xs) = heard i (hear i ch x) xs
