-- A NaN, and nothing else, differs from itself; which patterns are a NaN's, by the two fields that are tested; and +0's. Assumes nothing.
use mathlib.Core.Path.{◌≡◌, refl, sym}
use mathlib.Core.Bool.{Bool, true, false, not, ◌&&◌, true≢false}
use Prim.Native.Nat.{ℕ, ◌*◌, ◌%◌, ◌/◌, ◌<◌, ◌≤◌}
use native.Mathlib.Omega.{arith}
use lib.Dec.{T, eqb, eqb_refl}
use lib.Ieee.{Float, nan, inf, fin, up, down, ne, is_nan, nan_bits, of_bits, of_fields, binary64}
use borrow.Author.Tests.{ne_eqb, eq-eqb, eqb-true, eqb-false}
use Rattle.base_floats.specs.Entry.{plus_zero}
use Rattle.base_floats.proofs.Order.{is_true}

pub differs : (x : Float) → ne x x ≡ is_nan x
unfolding ne is_nan
differs nan = refl
differs (inf true) = refl
differs (inf false) = refl
differs (fin true m e) = rw (is_true (eqb (m * up e * down e) (m * up e * down e)) (eqb_refl (m * up e * down e)))
differs (fin false m e) = rw (is_true (eqb (m * up e * down e) (m * up e * down e)) (eqb_refl (m * up e * down e)))

pub only_nan : (x : Float) → is_nan x ≡ true → x ≡ nan
unfolding is_nan
only_nan nan h = refl
only_nan (inf s) h = absurd (true≢false (sym h))
only_nan (fin s m e) h = absurd (true≢false (sym h))

-- ---- patterns: a NaN's has an exponent field of 2047 and digits that are not 0, so without its sign it is past infinity's
abbrev field : ℕ → ℕ
field pattern = pattern % 0x8000_0000_0000_0000 / 0x0010_0000_0000_0000

abbrev digits : ℕ → ℕ
digits pattern = pattern % 0x0010_0000_0000_0000

other_field : (pattern : ℕ) → (field pattern ≡ 2047 → ⊥) → T (not (nan_bits binary64 pattern))
unfolding nan_bits
other_field pattern h = rw (ne_eqb (field pattern) 2047 h) tt

and_false : (b : Bool) → T (not (b && false))
and_false true = tt
and_false false = tt

no_digits : (pattern : ℕ) → digits pattern ≡ 0 → T (not (nan_bits binary64 pattern))
unfolding nan_bits
no_digits pattern h = rw (eq-eqb (digits pattern) 0 h) (and_false (eqb (field pattern) 2047))

pub to_infinity : (pattern : ℕ) → pattern % 0x8000_0000_0000_0000 ≤ 0x7FF0_0000_0000_0000 → T (not (nan_bits binary64 pattern))
to_infinity pattern h = go (eqb (field pattern) 2047) refl
  where
    go : (b : Bool) → eqb (field pattern) 2047 ≡ b → T (not (nan_bits binary64 pattern))
    go true e = let f = eqb-true (field pattern) 2047 e in no_digits pattern (omega (arith, f, h))
    go false e = other_field pattern (eqb-false (field pattern) 2047 e)

pub nan_pattern_lem : (pattern : ℕ) → field pattern ≡ 2047 → (digits pattern ≡ 0 → ⊥) → of_bits binary64 pattern ≡ nan
unfolding of_bits of_fields
nan_pattern_lem pattern h k = rw (h, ne_eqb (digits pattern) 0 k)

pub past_infinity : (pattern : ℕ) → 0x7FF0_0000_0000_0000 < pattern % 0x8000_0000_0000_0000 → of_bits binary64 pattern ≡ nan
past_infinity pattern h = nan_pattern_lem pattern (omega (arith, h)) (λ z. omega (arith, h, z))

-- the code's 0.0
pub zero_pattern : of_bits binary64 0 ≡ plus_zero
unfolding of_bits
zero_pattern = refl
