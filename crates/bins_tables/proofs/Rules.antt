-- The rules of the tables, at each entry. `checked` is one computed test over both whole tables; each rule is a part of it, read off at a place.
-- From them: the boundaries rise, and no boundary is at or above a later one. Assumes nothing.
use mathlib.Core.Path.{◌≡◌, refl, sym, subst}
use mathlib.Core.Logic.{inl, inr}
use mathlib.Core.Bool.{◌&&◌}
use mathlib.Core.List.{List}
use Prim.Native.Nat.{ℕ, zero, suc, ◌+◌, ◌*◌, ◌<◌, ◌≤◌}
use native.Mathlib.Nat.{le_refl, lt_of_le_of_lt, le_of_suc-le-suc, eq-or-lt_of_le}
use native.Mathlib.Numerals.{one-add}
use native.Mathlib.Omega.{arith}
use lib.Arith.{le-zero}
use lib.Dec.{T}
use lib.ListN.{length, get_or, drop, length-drop, get_or-eq_default}
use lib.Seq.{get_or-drop}
use lib.Ieee.{Float, nan, lt, le, of_bits}
use lib.Ieee.Fits.{and_l, and_r}
use lib.Ieee.Positive.{positive, num, den, cross→le}
use Rattle.base_floats.proofs.Order.{float_le_trans, lt→le, lt_not_le}
use Rattle.bins_tables.specs.Tables.{boundaries, energies, boundary_at, energy_at}
use Rattle.bins_tables.specs.Rules.{pairs, first_positive, tenfold, scaled, interleaved, rules_kept}
use Rattle.bins_tables.proofs.Pairs.{at}

checked : T rules_kept
unfolding rules_kept of_bits
checked = tt

boundaries_scaled : T (scaled boundaries)
unfolding rules_kept
boundaries_scaled = and_l (scaled boundaries) (scaled energies && interleaved boundaries energies) checked

energies_scaled : T (scaled energies)
unfolding rules_kept
energies_scaled =
    and_l (scaled energies) (interleaved boundaries energies) (and_r (scaled boundaries) (scaled energies && interleaved boundaries energies) checked)

both_interleaved : T (interleaved boundaries energies)
unfolding rules_kept
both_interleaved =
    and_r (scaled energies) (interleaved boundaries energies) (and_r (scaled boundaries) (scaled energies && interleaved boundaries energies) checked)

-- ---- what the test says at a place, for any table
scaled_positive : (xs : List Float) → T (scaled xs) → (i : ℕ) → i < length xs → T (positive (get_or xs i nan))
scaled_positive xs t i h = at first_positive nan xs xs (and_l (pairs first_positive xs xs) (pairs tenfold xs (drop 100 xs)) t) i h h

scaled_tenfold : (xs : List Float) → T (scaled xs) → (i : ℕ) → 100 + i < length xs → T (tenfold (get_or xs i nan) (get_or xs (100 + i) nan))
scaled_tenfold xs t i h =
    subst (λ (y : Float). T (tenfold (get_or xs i nan) y)) (get_or-drop 100 xs i nan)
    (at tenfold nan xs (drop 100 xs) (and_r (pairs first_positive xs xs) (pairs tenfold xs (drop 100 xs)) t) i (omega arith) (omega (arith, length-drop 100 xs)))

-- ---- the rules
pub boundaries_length : length boundaries ≡ 1001
unfolding boundaries
boundaries_length = refl

pub energies_length : length energies ≡ 1000
unfolding energies
energies_length = refl

-- past its end a table has NaN
pub boundary_past : (i : ℕ) → 1001 ≤ i → boundary_at i ≡ nan
unfolding boundary_at
boundary_past i h = get_or-eq_default boundaries nan {n = i} (subst (λ (n : ℕ). n ≤ i) (sym boundaries_length) h)

pub energy_past : (i : ℕ) → 1000 ≤ i → energy_at i ≡ nan
unfolding energy_at
energy_past i h = get_or-eq_default energies nan {n = i} (subst (λ (n : ℕ). n ≤ i) (sym energies_length) h)

pub boundary_positive : (i : ℕ) → i < 1001 → T (positive (boundary_at i))
unfolding boundary_at
boundary_positive i h = scaled_positive boundaries boundaries_scaled i (omega (arith, boundaries_length))

pub energy_positive : (i : ℕ) → i < 1000 → T (positive (energy_at i))
unfolding energy_at
energy_positive i h = scaled_positive energies energies_scaled i (omega (arith, energies_length))

pub boundary_tenfold : (i : ℕ) → 100 + i < 1001 → T (tenfold (boundary_at i) (boundary_at (100 + i)))
unfolding boundary_at
boundary_tenfold i h = scaled_tenfold boundaries boundaries_scaled i (omega (arith, boundaries_length))

pub energy_tenfold : (i : ℕ) → 100 + i < 1000 → T (tenfold (energy_at i) (energy_at (100 + i)))
unfolding energy_at
energy_tenfold i h = scaled_tenfold energies energies_scaled i (omega (arith, energies_length))

pub boundary_below_energy : (i : ℕ) → i < 1000 → T (lt (boundary_at i) (energy_at i))
unfolding boundary_at energy_at
boundary_below_energy i h =
    at lt nan boundaries energies (and_l (pairs lt boundaries energies) (pairs lt energies (drop 1 boundaries)) both_interleaved) i
    (omega (arith, boundaries_length)) (omega (arith, energies_length))

pub energy_below_next : (i : ℕ) → i < 1000 → T (lt (energy_at i) (boundary_at (1 + i)))
unfolding boundary_at energy_at
energy_below_next i h =
    subst (λ (y : Float). T (lt (get_or energies i nan) y)) (get_or-drop 1 boundaries i nan)
    (at lt nan energies (drop 1 boundaries) (and_r (pairs lt boundaries energies) (pairs lt energies (drop 1 boundaries)) both_interleaved) i
    (omega (arith, energies_length)) (omega (arith, boundaries_length, length-drop 1 boundaries)))

-- ---- the boundaries rise
next_boundary : (i : ℕ) → i < 1000 → T (le (boundary_at i) (boundary_at (1 + i)))
next_boundary i h =
    float_le_trans (boundary_at i) (energy_at i) (boundary_at (1 + i))
    (lt→le (boundary_at i) (energy_at i) (boundary_below_energy i h)) (lt→le (energy_at i) (boundary_at (1 + i)) (energy_below_next i h))

pub same_boundary : (i : ℕ) → i < 1001 → T (le (boundary_at i) (boundary_at i))
same_boundary i l =
    cross→le (boundary_at i) (boundary_at i) (boundary_positive i l) (boundary_positive i l) (le_refl (num (boundary_at i) * den (boundary_at i)))

pub boundaries_rise : (i j : ℕ) → i ≤ j → j < 1001 → T (le (boundary_at i) (boundary_at j))
boundaries_rise i zero h l = subst (λ (k : ℕ). T (le (boundary_at i) (boundary_at k))) (le-zero h) (same_boundary i (lt_of_le_of_lt h l))
boundaries_rise i (suc j) h l = elim (eq-or-lt_of_le h) [
  | inl e ↦ subst (λ (k : ℕ). T (le (boundary_at i) (boundary_at k))) e (same_boundary i (lt_of_le_of_lt h l))
  | inr g ↦
      float_le_trans (boundary_at i) (boundary_at j) (boundary_at (suc j)) (boundaries_rise i j (le_of_suc-le-suc g) (omega arith))
      (subst (λ (k : ℕ). T (le (boundary_at j) (boundary_at k))) (one-add j) (next_boundary j (omega arith)))
]

-- no boundary is at or above a later one
pub boundaries_strict : (i j : ℕ) → i < j → j < 1001 → T (le (boundary_at j) (boundary_at i)) → ⊥
boundaries_strict i j h l t =
    lt_not_le (boundary_at i) (energy_at i) (boundary_below_energy i (omega arith))
    (float_le_trans (energy_at i) (boundary_at (1 + i)) (boundary_at i) (lt→le (energy_at i) (boundary_at (1 + i)) (energy_below_next i (omega arith)))
    (float_le_trans (boundary_at (1 + i)) (boundary_at j) (boundary_at i) (boundaries_rise (1 + i) j (omega arith) l) t))
