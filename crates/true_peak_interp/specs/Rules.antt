-- The rules that document 01 (port order, step 5) has the coefficients keep.
-- "Coefficient 24 is 1; none exceeds 1 in magnitude; coefficients 24+k and 24-k (k to 23) differ by at most 2^-23."
use Rattle.std.specs.Prelude.{◌≡◌, Bool, false, cond, List, ℕ, ◌+◌, ◌-◌, ◌*◌, ◌^◌, ◌<◌, ◌≤◌, T, leb, get_or, pos, Float}
use Rattle.std.specs.Bool.{beq}
use Rattle.std.specs.Float.{nan, inf, fin}
use Rattle.std.specs.Float.Ieee.{up, down, le}
use Rattle.base_floats.specs.Largest.{magnitude}

abbrev pub one : Float
one = fin false 1 (pos 0)

-- the magnitude is at most 1
abbrev pub within_one : Float → Bool
within_one x = le (magnitude x) one

-- how far ±a and ±b are apart
abbrev pub apart : Bool → ℕ → Bool → ℕ → ℕ
apart s a t b = cond (beq s t) ((a - b) + (b - a)) (a + b)

-- x and y differ by at most 2^-23: over their common denominator, 2^23 times the difference is at most that denominator
abbrev pub near : Float → Float → Bool
near nan y = false
near (inf s) y = false
near (fin s m e) nan = false
near (fin s m e) (inf t) = false
near (fin s m e) (fin t n d) = leb (apart s (m * up e * down d) t (n * up d * down e) * 2 ^ 23) (down e * down d)

pub record Ruled (taps : List Float) : Type 0 where
  pub centre : get_or taps 24 nan ≡ one
  pub within : (j : ℕ) → j < 48 → T (within_one (get_or taps j nan))
  pub mirrored : (k : ℕ) → k ≤ 23 → T (near (get_or taps (24 + k) nan) (get_or taps (24 - k) nan))
