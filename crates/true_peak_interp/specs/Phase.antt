-- Phase f at a frame (01, step 5): "the f32 sum, from 0, over i = 0, 1, .. of the sample i frames back (0 before the start) times coefficient i·factor + f; product and sum round separately."
-- A history is a channel's last samples, newest first, zeros before the start, however it is stored.
use Rattle.std.specs.Prelude.{List, [], ◌∷◌, cond, ℕ, zero, suc, ◌+◌, eqb, take, get_or, replicate, Float}
use Rattle.std.specs.Float.{nan, binary32}
use Rattle.std.specs.Float.Ieee.{add, mul}
use Rattle.base_floats.specs.Entry.{plus_zero}
use Rattle.true_peak_interp.specs.declared.Interp.{Interp}
use Rattle.true_peak_interp.specs.Taps.{fourfold as fourfold_taps, twofold as twofold_taps}
use Rattle.true_peak_interp.specs.Interp.{fourfold, twofold}

-- the coefficients of a factor, and NaN where there are none
abbrev pub coefficients : ℕ → List Float
coefficients factor = cond (eqb factor fourfold.factor) fourfold_taps (cond (eqb factor twofold.factor) twofold_taps (replicate 48 nan))

-- the sum carried on by a sample times a coefficient
abbrev pub plus : Float → Float → Float → Float
plus sum x c = add binary32 sum (mul binary32 x c)

-- the sum carried on over samples, newest first: the first goes times tap j, each next one times the tap `factor` places on
unfoldable pub summed : List Float → ℕ → ℕ → Float → List Float → Float
summed taps factor j sum [] = sum
summed taps factor j sum (x ∷ xs) = summed taps factor (j + factor) (plus sum x (get_or taps j nan)) xs

-- phase f of these samples, by a table of taps
abbrev pub phase : List Float → ℕ → List Float → ℕ → Float
phase taps factor samples f = summed taps factor f plus_zero samples

-- n phases from phase f on
unfoldable pub phases_from : List Float → ℕ → List Float → ℕ → ℕ → List Float
unfolding summed
phases_from taps factor samples f zero = []
phases_from taps factor samples f (suc n) = phase taps factor samples f ∷ phases_from taps factor samples (suc f) n

-- all phases by a table of taps: one for each part that the factor makes of a frame
unfoldable pub phases_by : List Float → Interp → List Float → List Float
unfolding phases_from
phases_by taps i history = phases_from taps i.factor (take i.taps history) 0 i.factor

-- an interpolator's phases: by its own coefficients
abbrev pub phases : Interp → List Float → List Float
phases i = phases_by (coefficients i.factor) i
