-- Two floats that a format holds and that have the same sign and size are the same float: its pattern is told by its sign and by how many of the smallest values make it up.
-- Assumes nothing.
use mathlib.Core.Path.{◌≡◌, refl, sym, ap, subst, ◌∙◌}
use mathlib.Core.Bool.{Bool}
use Prim.Native.Nat.{ℕ, suc, ◌+◌, ◌*◌, ◌/◌, ◌^◌, ◌<◌}
use native.Mathlib.Nat.{mul_right_comm, zero-mul}
use lib.Dec.{T}
use lib.IntN.{ℤ, pos}
use lib.Pow.{pow_pos}
use lib.Ieee.{Float, nan, inf, fin, Format, prec, emax, low, up, down, round, fits, to_bits, of_bits}
use lib.Ieee.Bits.{of_bits-to_bits}
use lib.Ieee.Exact.{HasValue, round_exact}
use lib.Ieee.Fits.{down_pos, round-fits}
use lib.Ieee.Nearest.{div_same}

crossed : (a b c d u : ℕ) → a * c ≡ b * d → a * u * c ≡ b * u * d
crossed a b c d u h = mul_right_comm a u c ∙ ap (λ (x : ℕ). x * u) h ∙ mul_right_comm b d u

module _ (f : Format) (s : Bool) where
  -- ±m·2^e is a / c in size
  in_smallest : (m : ℕ) (e : ℤ) (a c : ℕ) → 0 < c → m * up e * c ≡ a * down e → m * up e * 2 ^ low f / down e ≡ a * 2 ^ low f / c
  in_smallest m e a c k h = div_same (m * up e * 2 ^ low f) (down e) (a * 2 ^ low f) c (down_pos e) k (crossed (m * up e) a c (down e) (2 ^ low f) h)

  same_bits : (m : ℕ) (e : ℤ) (n : ℕ) (d : ℤ) → m * up e * 2 ^ low f / down e ≡ n * up d * 2 ^ low f / down d → to_bits f (fin s m e) ≡ to_bits f (fin s n d)
  unfolding to_bits
  same_bits m e n d h = rw h

pub same_float : (f : Format) (x y : Float) (s : Bool) (a c : ℕ) → 0 < c → T (fits f x) → T (fits f y) → HasValue x s a c → HasValue y s a c → x ≡ y
same_float f nan y s a c k p q v w = absurd v
same_float f (inf t) y s a c k p q v w = absurd v
same_float f (fin t m e) nan s a c k p q v w = absurd w
same_float f (fin t m e) (inf u) s a c k p q v w = absurd w
same_float f (fin t m e) (fin u n d) s a c k p q v w =
    let x : fin t m e ≡ fin s m e = ap (λ (sign : Bool). fin sign m e) v.0 in
    let y : fin u n d ≡ fin s n d = ap (λ (sign : Bool). fin sign n d) w.0 in
    x
    ∙ sym (of_bits-to_bits f (fin s m e) (subst (λ (z : Float). T (fits f z)) x p))
    ∙ ap (of_bits f) (same_bits f s m e n d (in_smallest f s m e a c k v.1 ∙ sym (in_smallest f s n d a c k w.1)))
    ∙ of_bits-to_bits f (fin s n d) (subst (λ (z : Float). T (fits f z)) y q)
    ∙ sym y

-- 0 of either sign is its own rounding
pub round_zero : (f : Format) (s : Bool) (c : ℕ) → 0 < c → round f s 0 c ≡ fin s 0 (pos 0)
unfolding fits
round_zero f s c h =
    same_float f (round f s 0 c) (fin s 0 (pos 0)) s 0 c h (round-fits f s 0 c) tt
    (round_exact f s 0 c 0 0 h (pow_pos (prec f)) (pow_pos (low f + suc (emax f))) (zero-mul (2 ^ low f) ∙ sym (zero-mul c))) (refl, zero-mul c)
