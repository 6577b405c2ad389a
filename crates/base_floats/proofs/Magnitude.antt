-- Magnitudes: they fit where their floats do, none is below +0, and NaN is greater than nothing.
-- A top that is not below +0 is raised by x and then by -x as by the magnitude, for of the two only the magnitude can be above it. Assumes nothing.
use mathlib.Core.Path.{◌≡◌, refl, ap, sym, ◌∙◌}
use mathlib.Core.Bool.{Bool, true, false, cond, true≢false}
use mathlib.Core.List.{List, [], ◌∷◌, ◌++◌}
use Prim.Native.Nat.{ℕ, zero, suc, ◌+◌, ◌*◌, ◌<◌}
use native.Mathlib.Nat.{zero-mul, mul-pos}
use native.Mathlib.Omega.{arith}
use borrow.Author.Tests.{ltb-false, le-ltb, lt-ltb}
use lib.Dec.{T, ltb}
use lib.IntN.{ℤ}
use lib.Ieee.{Float, Format, nan, inf, fin, up, down, lt, neg, fits}
use lib.Ieee.Fits.{up_pos, down_pos}
use Rattle.base_floats.specs.Entry.{plus_zero}
use Rattle.base_floats.specs.Largest.{magnitude, greater, greatest, largest}

pub magnitude_fits : (f : Format) (x : Float) → T (fits f x) → T (fits f (magnitude x))
unfolding fits
magnitude_fits f nan h = h
magnitude_fits f (inf s) h = h
magnitude_fits f (fin s zero e) h = h
magnitude_fits f (fin s (suc m) e) h = h

pub magnitude_again : (x : Float) → magnitude (magnitude x) ≡ magnitude x
magnitude_again nan = refl
magnitude_again (inf s) = refl
magnitude_again (fin s m e) = refl

-- "NaN never wins."
pub nan_never : (top : Float) → lt top nan ≡ false
unfolding lt
nan_never nan = refl
nan_never (inf s) = refl
nan_never (fin s n d) = refl

-- ---- a top that is not below 0: a NaN is not, either
abbrev pub High : Float → Type 0
High top = lt top plus_zero ≡ false

pub zero_high : High plus_zero
unfolding lt
zero_high = refl

magnitude_high : (x : Float) → High (magnitude x)
unfolding lt
magnitude_high nan = refl
magnitude_high (inf s) = refl
magnitude_high (fin s m e) = le-ltb (m * up e * 1) (0 * down e) (omega (arith, zero-mul (down e)))

greater_high : (top v : Float) → High top → High v → High (greater top v)
greater_high top v h k = go (lt top v)
  where
    go : (b : Bool) → High (cond b v top)
    go true = k
    go false = h

pub raised_high : (top x : Float) → High top → High (greater top (magnitude x))
raised_high top x h = greater_high top (magnitude x) h (magnitude_high x)

pub largest_high : (top : Float) (xs : List Float) → High top → High (largest top xs)
unfolding greatest
largest_high top [] h = h
largest_high top (x ∷ xs) h = largest_high (greater top (magnitude x)) xs (raised_high top x h)

pub largest_append : (top : Float) (xs ys : List Float) → largest top (xs ++ ys) ≡ largest (largest top xs) ys
unfolding greatest
largest_append top [] ys = refl
largest_append top (x ∷ xs) ys = largest_append (greater top (magnitude x)) xs ys

-- ---- nothing negative is above it
nothing : (m : ℕ) (e : ℤ) → ltb 0 (m * up e * 1 + 0 * 1 * down e) ≡ false → m * up e ≡ 0
nothing m e h = omega (arith, ltb-false 0 (m * up e * 1 + 0 * 1 * down e) h)

above_negative : (top : Float) → High top → (m : ℕ) (e : ℤ) → lt top (fin true m e) ≡ false
unfolding lt
above_negative nan h m e = refl
above_negative (inf true) h m e = absurd (true≢false h)
above_negative (inf false) h m e = refl
above_negative (fin false n d) h m e = refl
above_negative (fin true n d) h m e =
    let z : n * up d * down e ≡ 0 = ap (λ (x : ℕ). x * down e) (nothing n d h) ∙ zero-mul (down e) in
    le-ltb (m * up e * down d) (n * up d * down e) (omega arith)

above_bottom : (top : Float) → High top → lt top (inf true) ≡ false
unfolding lt
above_bottom nan h = refl
above_bottom (inf true) h = absurd (true≢false h)
above_bottom (inf false) h = refl
above_bottom (fin s n d) h = refl

kept : (top x : Float) → lt top x ≡ false → greater top x ≡ top
kept top x g = ap (λ (b : Bool). cond b x top) g

-- against x and then against -x, or against the magnitude
pub both_ways : (top x : Float) → High top → greater (greater top x) (neg x) ≡ greater top (magnitude x)
unfolding neg
both_ways top nan h = ap (λ (t : Float). greater t nan) (kept top nan (nan_never top))
both_ways top (inf true) h = ap (λ (t : Float). greater t (inf false)) (kept top (inf true) (above_bottom top h))
both_ways top (inf false) h = kept (greater top (inf false)) (inf true) (above_bottom (greater top (inf false)) (raised_high top (inf false) h))
both_ways top (fin true m e) h = ap (λ (t : Float). greater t (fin false m e)) (kept top (fin true m e) (above_negative top h m e))
both_ways top (fin false m e) h = kept (greater top (fin false m e)) (fin true m e) (above_negative (greater top (fin false m e)) (raised_high top (fin false m e) h) m e)

-- ---- a magnitude below ±m·2^e: the float is between the two
pub between : (m : ℕ) (e : ℤ) → 0 < m → (v z : Float) → cond (lt (magnitude v) (fin false m e)) z v ≡ cond (lt (fin true m e) v) (cond (lt v (fin false m e)) z v) v
unfolding lt
between m e h nan z = refl
between m e h (inf true) z = refl
between m e h (inf false) z = refl
between m e h (fin true n d) z =
    let p : 0 < m * up e * down d = mul-pos (mul-pos h (up_pos e)) (down_pos d) in
    sym (ap (λ (b : Bool). cond (ltb (n * up d * down e) (m * up e * down d)) (cond b z (fin true n d)) (fin true n d)) (lt-ltb 0 (n * up d * down e + m * up e * down d) (omega (arith, p))))
between m e h (fin false n d) z =
    let p : 0 < m * up e * down d = mul-pos (mul-pos h (up_pos e)) (down_pos d) in
    sym (ap (λ (b : Bool). cond b (cond (ltb (n * up d * down e) (m * up e * down d)) z (fin false n d)) (fin false n d)) (lt-ltb 0 (m * up e * down d + n * up d * down e) (omega (arith, p))))
