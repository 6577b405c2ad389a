-- The rules of the coefficients, at each place. `checked` is one computed test over both whole tables; each rule is a part of it, read off at a place. Assumes nothing.
use mathlib.Core.Path.{◌≡◌, refl, sym, subst}
use mathlib.Core.Logic.{inl, inr}
use mathlib.Core.Bool.{Bool, true, ◌&&◌}
use mathlib.Core.List.{List, [], ◌∷◌}
use Prim.Native.Nat.{ℕ, zero, suc, ◌+◌, ◌-◌, ◌<◌}
use native.Mathlib.Nat.{le_of_suc-le-suc, not-suc-le-zero, eq-or-lt_of_le}
use native.Mathlib.Omega.{arith}
use lib.Dec.{T}
use lib.ListN.{length, get_or}
use lib.Ieee.{Float, nan, le, of_bits}
use lib.Ieee.Fits.{and_l, and_r}
use Rattle.true_peak_interp.specs.Taps.{fourfold, twofold}
use Rattle.true_peak_interp.specs.Rules.{one, within_one, near, Ruled}

-- ---- the test
abbrev all_within : List Float → Bool
all_within [] = true
all_within (x ∷ xs) = within_one x && all_within xs

-- the places 24 + k and 24 - k, for each k below n
abbrev mirrored : List Float → ℕ → Bool
mirrored table zero = true
mirrored table (suc n) = near (get_or table (24 + n) nan) (get_or table (24 - n) nan) && mirrored table n

abbrev ruled : List Float → Bool
ruled table = all_within table && mirrored table 24

unfoldable right : Bool
unfolding fourfold twofold
right = ruled fourfold && ruled twofold

checked : T right
unfolding right of_bits le
checked = tt

-- ---- what the test says at a place, for any table
within_at : (table : List Float) → T (all_within table) → (j : ℕ) → j < length table → T (within_one (get_or table j nan))
within_at [] t j h = absurd (not-suc-le-zero h)
within_at (x ∷ xs) t zero h = and_l (within_one x) (all_within xs) t
within_at (x ∷ xs) t (suc j) h = within_at xs (and_r (within_one x) (all_within xs) t) j (le_of_suc-le-suc h)

mirrored_at : (table : List Float) (n : ℕ) → T (mirrored table n) → (k : ℕ) → k < n → T (near (get_or table (24 + k) nan) (get_or table (24 - k) nan))
mirrored_at table zero t k h = absurd (not-suc-le-zero h)
mirrored_at table (suc n) t k h = elim (eq-or-lt_of_le (le_of_suc-le-suc h)) [
  | inl e ↦ subst (λ (i : ℕ). T (near (get_or table (24 + i) nan) (get_or table (24 - i) nan))) (sym e) (and_l (near (get_or table (24 + n) nan) (get_or table (24 - n) nan)) (mirrored table n) t)
  | inr l ↦ mirrored_at table n (and_r (near (get_or table (24 + n) nan) (get_or table (24 - n) nan)) (mirrored table n) t) k l
]

by_test : (table : List Float) → length table ≡ 48 → get_or table 24 nan ≡ one → T (ruled table) → Ruled table
by_test table size centre t =
    record {
      centre = centre;
      within = λ j h. within_at table (and_l (all_within table) (mirrored table 24) t) j (subst (λ (n : ℕ). j < n) (sym size) h);
      mirrored = λ k h. mirrored_at table 24 (and_r (all_within table) (mirrored table 24) t) k (omega arith);
    }

-- ---- the rules
pub fourfold_ruled : Ruled fourfold
unfolding fourfold of_bits right
fourfold_ruled = by_test fourfold refl refl (and_l (ruled fourfold) (ruled twofold) checked)

pub twofold_ruled : Ruled twofold
unfolding twofold of_bits right
twofold_ruled = by_test twofold refl refl (and_r (ruled fourfold) (ruled twofold) checked)
