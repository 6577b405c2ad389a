-- The worked cases of document 01 for the true peak, each computed: mono, full scale and zeros after it. An i16 sample of -32768 is the f32 -1.0. Assumes nothing.
use mathlib.Core.Path.{◌≡◌, refl}
use mathlib.Core.List.{◌∷◌}
use mathlib.Core.Bool.{true}
use Prim.Native.Nat.{ℕ}
use lib.IntN.{pos}
use lib.ListN.{get_or, replicate}
use lib.Ieee.{Float, nan, fin, add, mul, lt, of_bits}
use Rattle.base_floats.specs.Entry.{plus_zero}
use Rattle.true_peak_interp.specs.Interp.{kind_of}
use Rattle.true_peak_interp.specs.Rules.{one}
use Rattle.true_peak_interp.specs.Taps.{fourfold, twofold}
use Rattle.true_peak_interp.specs.Phase.{phases_by}
use Rattle.true_peak_state.specs.declared.TruePeak.{TruePeak}
use Rattle.base_floats.specs.Largest.{greatest}
use Rattle.true_peak_state.specs.Channel.{heard}
use Rattle.samples.specs.Frames.{column}
use Rattle.true_peak_state.specs.TruePeak.{Heard, silent, measured}

-- -1.0 and then n zeros, of one channel
unfoldable pub full_scale : ℕ → Heard
full_scale n = record { channels = 1; samples = fin true 1 (pos 0) ∷ replicate n plus_zero }

-- the first channel's true peak after them
unfoldable pub peak_at : ℕ → ℕ → Float
unfolding full_scale
peak_at rate n = get_or (measured (kind_of rate) (full_scale n) silent).peaks 0 nan

-- "Mono, 44,100, -32768 then eleven zeros: true peak 1.0."
pub at_44100 : peak_at 44100 11 ≡ one
unfolding peak_at measured heard greatest phases_by column fourfold add mul lt of_bits
at_44100 = refl

-- "At 96,000 the peak reaches 1.0 with twelve zeros."
pub at_96000 : peak_at 96000 12 ≡ one
unfolding peak_at measured heard greatest phases_by column twofold add mul lt of_bits
at_96000 = refl

-- with eleven it has not: 0.6338966 is below 1
pub before_96000 : lt (peak_at 96000 11) one ≡ true
unfolding peak_at measured heard greatest phases_by column twofold add mul lt of_bits
before_96000 = refl

-- "At 192,000: none": whatever the samples, the state stays
pub at_192000 : (b : Heard) (t : TruePeak) → measured (kind_of 192000) b t ≡ t
unfolding measured
at_192000 b t = refl
