-- An i16 as a float is exact: the float's size is |s|/32768 and its sign is the sample's, in f32 and in f64, so both formats give the same float.
-- A whole number up to 2^15 has at most 16 binary digits, and a division by 2^15 moves them into places that each format has. Assumes nothing.
use Rattle.std.proofs.Common.{◌≡◌, ℕ, suc, ◌+◌, ◌-◌, ◌*◌, ◌^◌, ◌<◌, ◌≤◌, Bool, true, false, ℤ, pos, negsuc, sym, refl, ap, ◌∙◌, subst, le_trans, lt_of_le_of_lt, mul-le-mul_right, mul_assoc, mul-pos, mul_right_comm, arith, lit<, lit≤}
use native.Mathlib.Nat.{eq_of_mul-eq-mul_right}
use lib.Signed.{mag}
use lib.Ieee.{Float, nan, inf, fin, Format, binary32, binary64, prec, emax, low, up, down, unlike, round, div, of_int}
use lib.Ieee.Exact.{HasValue, round_exact}
use lib.Ieee.Fits.{down_pos, div-fits, fits_widens}
use lib.Ieee.Back.{round_whole}
use Rattle.samples.specs.Sample.{full_scale16, sample_in}
use Rattle.base_floats.proofs.Value.{same_float}

-- sign and size of a whole number
abbrev pub negative : ℤ → Bool
negative (pos n) = false
negative (negsuc n) = true

abbrev pub size : ℤ → ℕ
size (pos n) = n
size (negsuc n) = suc n

scale_fits : (f : Format) → full_scale16 ≤ 2 ^ prec f
scale_fits binary32 = lit≤ tt
scale_fits binary64 = lit≤ tt

deep : (f : Format) → 2 ^ (low f - 15) * full_scale16 ≡ 2 ^ low f
deep binary32 = refl
deep binary64 = refl

scale_below : (f : Format) → full_scale16 < 2 ^ prec f
scale_below binary32 = lit< tt
scale_below binary64 = lit< tt

wide : (f : Format) → full_scale16 * 2 ^ (low f - 15) < 2 ^ (low f + suc (emax f))
wide binary32 = lit< tt
wide binary64 = lit< tt

full : (f : Format) → of_int f (pos full_scale16) ≡ fin false 1 (pos 15)
unfolding of_int
full binary32 = refl
full binary64 = refl

-- m·2^e is the whole number n: divided by 2^15 it is n/2^15
divided : (f : Format) (s : Bool) (m : ℕ) (e : ℤ) (n : ℕ) → n ≤ full_scale16 → m * up e * 1 ≡ n * down e
    → HasValue (round f s (m * up e * 1) (1 * 2 ^ 15 * down e)) s (m * up e * 1) (1 * 2 ^ 15 * down e)
divided f s m e n h v =
    let j = 2 ^ (low f - 15) in
    round_exact f s (m * up e * 1) (1 * 2 ^ 15 * down e) n (low f - 15)
    (mul-pos (lit< tt) (down_pos e))
    (lt_of_le_of_lt h (scale_below f))
    (lt_of_le_of_lt (mul-le-mul_right j h) (wide f))
    (ap (λ (x : ℕ). x * 2 ^ low f) v
    ∙ mul_right_comm n (down e) (2 ^ low f)
    ∙ ap (λ (x : ℕ). n * x * down e) (sym (deep f))
    ∙ ap (λ (x : ℕ). x * down e) (sym (mul_assoc n j full_scale16))
    ∙ mul_assoc (n * j) full_scale16 (down e))

-- the same size over the denominator 32768
rescaled : (x : Float) (s : Bool) (m : ℕ) (e : ℤ) (n : ℕ) → m * up e * 1 ≡ n * down e → HasValue x s (m * up e * 1) (1 * 2 ^ 15 * down e) → HasValue x s n full_scale16
rescaled nan s m e n h v = v
rescaled (inf t) s m e n h v = v
rescaled (fin t k g) s m e n h v = (
  v.0,
  eq_of_mul-eq-mul_right (down e) (down_pos e) (k * up g * full_scale16) (n * down g)
      (mul_assoc (k * up g) full_scale16 (down e)
      ∙ v.1
      ∙ ap (λ (x : ℕ). x * down g) h
      ∙ mul_right_comm n (down e) (down g)),
)

plus : (s : Bool) → unlike s false ≡ s
plus true = refl
plus false = refl

-- the quotient of a float with the sign s and the size n by 32768
quotient : (f : Format) (x : Float) (s : Bool) (n : ℕ) → n ≤ full_scale16 → HasValue x s n 1 → HasValue (div f x (fin false 1 (pos 15))) s n full_scale16
unfolding div
quotient f nan s n h v = absurd v
quotient f (inf t) s n h v = absurd v
quotient f (fin t m e) s n h v =
    subst (λ (u : Bool). HasValue (round f u (m * up e * 1) (1 * 2 ^ 15 * down e)) s n full_scale16) (sym (plus t ∙ v.0))
    (rescaled (round f s (m * up e * 1) (1 * 2 ^ 15 * down e)) s m e n v.1 (divided f s m e n h v.1))

whole : (f : Format) (z : ℤ) → size z ≤ full_scale16 → HasValue (of_int f z) (negative z) (size z) 1
unfolding of_int
whole f (pos n) h = round_whole f false n (le_trans h (scale_fits f))
whole f (negsuc n) h = round_whole f true (suc n) (le_trans h (scale_fits f))

-- the float's sign is the sample's, and its size is |s|/32768
pub sample_exact : (f : Format) (s : ℤ) → size s ≤ full_scale16 → HasValue (sample_in f s) (negative s) (size s) full_scale16
unfolding sample_in
sample_exact f s h = rw (full f) (quotient f (of_int f s) (negative s) (size s) h (whole f s h))

-- so f32 and f64 give the same float
pub same_in_both : (s : ℤ) → size s ≤ full_scale16 → sample_in binary32 s ≡ sample_in binary64 s
unfolding sample_in
same_in_both s h =
    same_float binary64 (sample_in binary32 s) (sample_in binary64 s) (negative s) (size s) full_scale16 (lit< tt)
    (fits_widens (sample_in binary32 s) (div-fits binary32 (of_int binary32 s) (of_int binary32 (pos full_scale16))))
    (div-fits binary64 (of_int binary64 s) (of_int binary64 (pos full_scale16)))
    (sample_exact binary32 s h)
    (sample_exact binary64 s h)

-- the range of an i16
pub in_range : (s : ℤ) → mag s < full_scale16 → size s ≤ full_scale16
in_range (pos n) h = omega arith
in_range (negsuc n) h = h
