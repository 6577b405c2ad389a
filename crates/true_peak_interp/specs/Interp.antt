-- The interpolator (01, step 5). "Rate below 96,000: factor 4, 12 taps; below 192,000: factor 2, 24 taps; else no true peak."
use Rattle.std.specs.Prelude.{◌≡◌, ◌⊎◌, cond, ℕ, ltb, Option, Some, None}
use Rattle.true_peak_interp.specs.declared.Interp.{Interp}

abbrev pub fourfold : Interp
fourfold = record { factor = 4; taps = 12 }

abbrev pub twofold : Interp
twofold = record { factor = 2; taps = 24 }

-- the rate edges
abbrev pub fourfold_below : ℕ
fourfold_below = 96000

abbrev pub twofold_below : ℕ
twofold_below = 192000

-- what a rate has: an interpolator, or no true peak
pub data Kind : Type 0 where
  upsampled : Interp → Kind
  no_true_peak : Kind

abbrev pub kind_of : ℕ → Kind
kind_of rate = cond (ltb rate fourfold_below) (upsampled fourfold) (cond (ltb rate twofold_below) (upsampled twofold) no_true_peak)

-- the interpolators that a rate may have
abbrev pub Known : Interp → Type 0
Known i = (i ≡ fourfold) ⊎ (i ≡ twofold)

-- what an answer says: an interpolator, or none
abbrev pub said : Option Interp → Kind
said (Some i) = upsampled i
said None = no_true_peak
