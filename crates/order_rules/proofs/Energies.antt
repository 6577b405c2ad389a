-- The order of energies above zero: of two, one is at most the other, and two that are at most each other are the same value.
-- A value of the format is written in one way. Assumes nothing.
use mathlib.Core.Path.{◌≡◌, refl, sym, ap, ◌∙◌, subst}
use mathlib.Core.Bool.{Bool, true, false}
use Prim.Native.Nat.{ℕ, zero, suc, ◌*◌, ◌<◌}
use borrow.Author.Tests.{lt-ltb, le-ltb}
use native.Mathlib.Nat.{zero-mul, mul-pos, le_antisymm}
use native.Mathlib.Omega.{arith}
use lib.Dec.{T, ltb}
use lib.Ieee.{Float, nan, inf, fin, binary64, up, down, lt, le, is_nan, fits, of_bits}
use lib.Ieee.Fits.{up_pos, down_pos}
use Rattle.base_floats.specs.Entry.{plus_zero}
use Rattle.base_floats.proofs.Order.{is_false, lt→le, at_most, total}
use Rattle.base_floats.proofs.Value.{same_float}
use Rattle.base_floats.proofs.Nan.{zero_pattern}
use lib.Ieee.Positive.{above, above_of_le}

number : (x : Float) → T (above x) → is_nan x ≡ false
unfolding is_nan
number nan p = absurd p
number (inf s) p = refl
number (fin s m e) p = refl

-- ---- two of which the first is not below the second
pub not_below_lem : (x y : Float) → T (above x) → T (above y) → lt x y ≡ false → T (le y x)
not_below_lem x y p q h = total x y (number x p) (number y q) h

pub not_at_most : (x y : Float) → T (above x) → T (above y) → le x y ≡ false → T (le y x)
not_at_most x y p q h = not_below_lem x y p q (is_false (lt x y) (λ t. subst T h (lt→le x y t)))

pub same_at_most : (x : Float) → T (above x) → T (le x x)
same_at_most x p = elim_le (le x x) refl
  where
    elim_le : (b : Bool) → le x x ≡ b → T (le x x)
    elim_le true e = subst T (sym e) tt
    elim_le false e = not_at_most x x p p e

-- ---- two that are at most each other
pub same_value : (x y : Float) → T (above x) → T (above y) → T (fits binary64 x) → T (fits binary64 y) → T (le x y) → T (le y x) → x ≡ y
unfolding lt le
same_value nan y p q f g h k = absurd p
same_value (inf true) y p q f g h k = absurd p
same_value (inf false) nan p q f g h k = absurd q
same_value (inf false) (inf true) p q f g h k = absurd q
same_value (inf false) (inf false) p q f g h k = refl
same_value (inf false) (fin t n d) p q f g h k = absurd h
same_value (fin true m e) y p q f g h k = absurd p
same_value (fin false m e) nan p q f g h k = absurd q
same_value (fin false m e) (inf true) p q f g h k = absurd q
same_value (fin false m e) (inf false) p q f g h k = absurd k
same_value (fin false m e) (fin true n d) p q f g h k = absurd q
same_value (fin false m e) (fin false n d) p q f g h k =
    same_float binary64 (fin false m e) (fin false n d) false (n * up d) (down d) (down_pos d) f g
    (refl, le_antisymm (at_most (m * up e * down d) (n * up d * down e) h) (at_most (n * up d * down e) (m * up e * down d) k)) (refl, refl)

-- ---- above zero
pub above_up : (x y : Float) → T (above x) → T (le x y) → T (above y)
unfolding le
above_up nan y p h = absurd p
above_up (inf true) y p h = absurd p
above_up (inf false) nan p h = absurd h
above_up (inf false) (inf true) p h = absurd h
above_up (inf false) (inf false) p h = tt
above_up (inf false) (fin t n d) p h = absurd h
above_up (fin true m e) y p h = absurd p
above_up (fin false m e) y p h = above_of_le (fin false m e) y p h

suc_pos : {m : ℕ} → 0 < suc m
suc_pos = omega arith

size_above : (a m u : ℕ) → a ≡ 0 → 0 < u → ltb a (m * u * 1) ≡ ltb 0 m
size_above a zero u z h = le-ltb a (0 * u * 1) (omega (arith, zero-mul u))
size_above a (suc m) u z h =
    let sized : 0 < suc m * u = mul-pos suc_pos h in
    lt-ltb a (suc m * u * 1) (omega (arith, sized)) ∙ sym (lt-ltb 0 (suc m) (omega arith))

-- the code's 0.0
below_is : (x : Float) → lt plus_zero x ≡ above x
unfolding lt
below_is nan = refl
below_is (inf s) = refl
below_is (fin true m e) = refl
below_is (fin false m e) = size_above (0 * 1 * down e) m (up e) (zero-mul (down e)) (up_pos e)

pub zero_below : (x : Float) → lt (of_bits binary64 0) x ≡ above x
zero_below x = ap (λ (z : Float). lt z x) zero_pattern ∙ below_is x
