-- A reading is the nearest tenth: an energy on either side of a table energy has its tenth by its bin, and tenths rise with energies. Assumes nothing.
use mathlib.Core.Path.{◌≡◌, refl, sym, ap, ◌∙◌, subst}
use mathlib.Core.Logic.{inl, inr}
use mathlib.Core.Bool.{Bool, true, false, cond}
use Prim.Native.Nat.{ℕ, suc, ◌+◌, ◌-◌, ◌≤◌, ◌<◌}
use native.Mathlib.Nat.{eq-or-lt_of_le}
use native.Mathlib.Omega.{arith}
use borrow.Author.Tests.{ltb-true, ltb-false}
use lib.Dec.{T, ltb, le→leb}
use lib.IntN.{ℤ, pos, negsuc, ◌+ℤ◌}
use lib.Signed.{◌≤ℤ◌, le_z, le_z_yes}
use lib.Ieee.{Float, nan, inf, fin, lt, le, eq, is_nan}
use Rattle.base_floats.proofs.Order.{is_true, is_false, float_le_trans, lt→le, lt_not_le, total, left_number, right_number, irreflexive, le_lt, lt_lt}
use Rattle.base_refusals.specs.Outcome.{answers, said_by}
use Rattle.base_refusals.proofs.Behind.{passed}
use Rattle.bins_tables.specs.Tables.{boundary_at, energy_at}
use Rattle.bins_tables.proofs.Rules.{boundary_below_energy, energy_below_next, same_boundary, boundaries_rise}
use Rattle.bins.specs.Bin.{bin_of}
use Rattle.bins.specs.Reading.{lowest, nearest_tenth, tenths_of, reading_rows, reading_of}
use Rattle.bins.proofs.Bins.{bins_rise, bin_between}
use Rattle.bins.proofs.Readings.{on_scale, none_off, tenth_of, tenth_most}
use Rattle.acceptance_scale.specs.Readings.{ReadingIsNearest}

-- ---- the nearest tenth in the lower half of bin i, in its upper half, and between two table energies
lower_half : (x : Float) (i : ℕ) → i < 1000 → T (le (boundary_at i) x) → T (lt x (energy_at i)) → nearest_tenth x ≡ i
lower_half x i h p q =
    tenth_of x i true (bin_between x i h p (lt_lt x (energy_at i) (boundary_at (1 + i)) q (energy_below_next i h))) (is_true (lt x (energy_at i)) q)

upper_half : (x : Float) (i : ℕ) → i < 1000 → T (le (energy_at i) x) → T (lt x (boundary_at (1 + i))) → nearest_tenth x ≡ 1 + i
upper_half x i h p q =
    tenth_of x i false
    (bin_between x i h (float_le_trans (boundary_at i) (energy_at i) x (lt→le (boundary_at i) (energy_at i) (boundary_below_energy i h)) p) q)
    (is_false (lt x (energy_at i)) (λ l. lt_not_le x (energy_at i) l p))
    ∙ omega arith

around : (x : Float) (i : ℕ) → 1 + i < 1000 → T (le (energy_at i) x) → T (lt x (energy_at (1 + i))) → nearest_tenth x ≡ 1 + i
around x i h p q = go (lt x (boundary_at (1 + i))) refl
  where
    go : (b : Bool) → lt x (boundary_at (1 + i)) ≡ b → nearest_tenth x ≡ 1 + i
    go true e = upper_half x i (omega arith) p (subst T (sym e) tt)
    go false e =
        lower_half x (1 + i) h
        (total x (boundary_at (1 + i)) (left_number x (energy_at (1 + i)) q) (right_number (energy_at i) (boundary_at (1 + i)) (energy_below_next i (omega arith))) e) q

-- ---- the reading of an energy from boundary 0 on and below some y of the scale
reads : (x y : Float) → T (le (boundary_at 0) x) → T (lt x y) → T (le y (boundary_at 1000)) → (tenth : ℕ) → nearest_tenth x ≡ tenth → reading_of x ≡ answers (lowest +ℤ pos tenth)
reads x y p q r tenth e =
    on_scale x
    (none_off x (left_number x y q) (is_false (lt x (boundary_at 0)) (λ l. lt_not_le x (boundary_at 0) l p))
    (is_false (le (boundary_at 1000) x) (λ l. lt_not_le x y q (float_le_trans y (boundary_at 1000) x r l))))
    ∙ ap (λ (n : ℕ). answers (lowest +ℤ pos n)) e

from_first : (i : ℕ) → i < 1000 → T (le (boundary_at 0) (energy_at i))
from_first i h =
    float_le_trans (boundary_at 0) (boundary_at i) (energy_at i) (boundaries_rise 0 i (omega arith) (omega arith)) (lt→le (boundary_at i) (energy_at i) (boundary_below_energy i h))

up_to_last : (i : ℕ) → i < 1000 → T (le (energy_at i) (boundary_at 1000))
up_to_last i h =
    float_le_trans (energy_at i) (boundary_at (1 + i)) (boundary_at 1000) (lt→le (energy_at i) (boundary_at (1 + i)) (energy_below_next i h))
    (boundaries_rise (1 + i) 1000 (omega arith) (omega arith))

at_lowest_lem : (x : Float) → T (le (boundary_at 0) x) → T (lt x (energy_at 0)) → reading_of x ≡ answers lowest
at_lowest_lem x p q = reads x (energy_at 0) p q (up_to_last 0 (omega arith)) 0 (lower_half x 0 (omega arith) p q)

at_highest_lem : (x : Float) → T (le (energy_at 999) x) → T (lt x (boundary_at 1000)) → reading_of x ≡ answers (pos 300)
at_highest_lem x p q =
    reads x (boundary_at 1000) (float_le_trans (boundary_at 0) (energy_at 999) x (from_first 999 (omega arith)) p) q (same_boundary 1000 (omega arith)) 1000
    (upper_half x 999 (omega arith) p q)

itself : (x : Float) → is_nan x ≡ false → T (le x x)
itself x n = total x x n n (is_false (lt x x) (irreflexive x))

top : T (lt (energy_at 999) (boundary_at 1000))
top = energy_below_next 999 (omega arith)

-- ---- tenths rise with energies, and readings with tenths
number : (x y : Float) → T (le x y) → is_nan x ≡ false
unfolding is_nan lt le eq
number nan y h = absurd h
number (inf s) y h = refl
number (fin s m e) y h = refl

tenths_rise : (x y : Float) → T (le x y) → nearest_tenth x ≤ nearest_tenth y
unfolding nearest_tenth
tenths_rise x y h = go (lt x (energy_at (bin_of x))) (lt y (energy_at (bin_of y))) refl refl (bins_rise x y h)
  where
    go : (b d : Bool) → lt x (energy_at (bin_of x)) ≡ b → lt y (energy_at (bin_of y)) ≡ d → bin_of x ≤ bin_of y
        → cond b (bin_of x) (bin_of x + 1) ≤ cond d (bin_of y) (bin_of y + 1)
    go true true p q r = r
    go true false p q r = omega arith
    go false true p q r = elim (eq-or-lt_of_le r) [
      | inl e ↦ absurd (subst T p (le_lt x y (energy_at (bin_of x)) (number x y h) h (subst (λ (n : ℕ). T (lt y (energy_at n))) (sym e) (subst T (sym q) tt))))
      | inr l ↦ omega arith
    ]
    go false false p q r = omega arith

readings_rise : (m n : ℕ) → m ≤ n → (lowest +ℤ pos m) ≤ℤ (lowest +ℤ pos n)
readings_rise m n h = le_z_yes (go (ltb m 700) (ltb n 700) refl refl)
  where
    go : (b d : Bool) → ltb m 700 ≡ b → ltb n 700 ≡ d → T (le_z (cond b (negsuc (700 - suc m)) (pos (m - 700))) (cond d (negsuc (700 - suc n)) (pos (n - 700))))
    go true true p q = le→leb (700 - suc n) (700 - suc m) (omega arith)
    go true false p q = tt
    go false true p q = absurd (omega (arith, ltb-false m 700 p, ltb-true n 700 q))
    go false false p q = le→leb (m - 700) (n - 700) (omega arith)

told : (x : Float) (tenths : ℤ) → reading_of x ≡ answers tenths → tenths ≡ tenths_of x
unfolding reading_of
told x tenths e = (passed (tenths_of x) (reading_rows x) tenths (ap said_by (sym e))).1

pub reading_is_nearest : ReadingIsNearest
reading_is_nearest = record {
  at_lowest = at_lowest_lem;
  between = λ i h x p q.
      reads x (energy_at (1 + i)) (float_le_trans (boundary_at 0) (energy_at i) x (from_first i (omega arith)) p) q (up_to_last (1 + i) h) (1 + i) (around x i h p q);
  at_highest = at_highest_lem;
  not_below = λ x t e. rw (told x t e) (readings_rise 0 (nearest_tenth x) (omega arith));
  not_above = λ x t e. rw (told x t e) (readings_rise (nearest_tenth x) 1000 (tenth_most x));
  lowest_reached = at_lowest_lem (boundary_at 0) (same_boundary 0 (omega arith)) (boundary_below_energy 0 (omega arith));
  highest_reached = at_highest_lem (energy_at 999) (itself (energy_at 999) (left_number (energy_at 999) (boundary_at 1000) top)) top;
  rises = λ x y s t h e f. rw (told x s e, told y t f) (readings_rise (nearest_tenth x) (nearest_tenth y) (tenths_rise x y h));
}
