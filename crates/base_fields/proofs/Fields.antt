-- The laws of a field: one byte more, two fields side by side, nothing past the end, and how large its number is. Each is an induction on the width. Assumes nothing.
use mathlib.Core.Path.{◌≡◌, refl, ap, ◌∙◌}
use mathlib.Core.Bool.{Bool, true, false, cond}
use mathlib.Core.List.{List}
use Prim.Native.Nat.{ℕ, zero, suc, min, ◌+◌, ◌-◌, ◌*◌, ◌^◌, ◌<◌, ◌≤◌}
use native.Mathlib.Nat.{lt_of_lt_of_le, mul_assoc}
use native.Mathlib.Omega.{arith}
use borrow.Author.Tests.{ltb-true, ltb-false}
use lib.Dec.{ltb}
use lib.Pow.{pow_mono, pow-add}
use lib.ListN.{length, get_or, get_or-eq_default}
use Rattle.base_fields.specs.Field.{field_at, narrowed}

-- how many numbers a field one byte wider tells apart
pub times_256 : (width : ℕ) → 2 ^ (8 * suc width) ≡ 256 * 2 ^ (8 * width)
times_256 width = let e : 8 * suc width ≡ 8 + 8 * width = omega arith in ap (λ (n : ℕ). 2 ^ n) e ∙ pow-add 2 8 (8 * width)

-- a field is its first byte and the field of the others
pub first_byte : (bytes : List ℕ) (at next width wider : ℕ) → next ≡ suc at → wider ≡ suc width
    → field_at bytes at wider ≡ get_or bytes at 0 + 256 * field_at bytes next width
unfolding field_at
first_byte bytes at next width wider n w = rw (n, w)

-- a field is one of its first bytes and one of the others
pub two_fields : (bytes : List ℕ) (at next first width wider : ℕ) → next ≡ at + first → wider ≡ first + width
    → field_at bytes at wider ≡ field_at bytes at first + 2 ^ (8 * first) * field_at bytes next width
unfolding field_at
two_fields bytes at next zero width wider n w =
    let e : next ≡ at = omega arith in
    let k : wider ≡ width = omega arith in
    rw (e, k) (omega arith)
two_fields bytes at next (suc first) width wider n w =
    let more : wider ≡ suc (first + width) = omega arith in
    let rest = two_fields bytes (suc at) next first width (first + width) (omega arith) refl in
    let high = 2 ^ (8 * first) * field_at bytes next width in
    let shift : 2 ^ (8 * suc first) * field_at bytes next width ≡ 256 * high =
    ap (λ (n : ℕ). n * field_at bytes next width) (times_256 first) ∙ mul_assoc 256 (2 ^ (8 * first)) (field_at bytes next width) in
    rw more (omega (arith, rest, shift))

none : (bytes : List ℕ) (at : ℕ) → field_at bytes at 0 ≡ 0
unfolding field_at
none bytes at = refl

pub past_end : (bytes : List ℕ) (at width : ℕ) → length bytes ≤ at → field_at bytes at width ≡ 0
unfolding field_at
past_end bytes at zero h = refl
past_end bytes at (suc width) h =
    let here : get_or bytes at 0 ≡ 0 = get_or-eq_default bytes 0 {n = at} h in
    let rest : field_at bytes (suc at) width ≡ 0 = past_end bytes (suc at) width (omega arith) in
    omega arith

-- of bytes that are bytes
pub small : (bytes : List ℕ) → ((i : ℕ) → get_or bytes i 0 < 256) → (at width : ℕ) → field_at bytes at width < 2 ^ (8 * width)
unfolding field_at
small bytes h at zero = omega arith
small bytes h at (suc width) =
    omega (arith, h at, small bytes h (suc at) width, times_256 width)

pub narrowed_is : (width : ℕ) → narrowed width ≡ min width 8
narrowed_is width = go (ltb width 8) refl
  where
    go : (b : Bool) → ltb width 8 ≡ b → cond b width 8 ≡ min width 8
    go true h = omega (arith, ltb-true width 8 h)
    go false h = omega (arith, ltb-false width 8 h)

-- a field that goes on past the end of the bytes
pub ends_early : (bytes : List ℕ) (at n width : ℕ) → n ≤ width → ((n ≡ width → ⊥) → length bytes ≤ at + n) → field_at bytes at n ≡ field_at bytes at width
ends_early bytes at n width h past =
    rw (two_fields bytes at (at + n) n (width - n) width refl (omega arith), nothing (width - n) refl) (omega arith)
  where
    nothing : (left : ℕ) → left ≡ width - n → field_at bytes (at + n) left ≡ 0
    nothing zero e = none bytes (at + n)
    nothing (suc left) e = past_end bytes (at + n) (suc left) (past (omega arith))

-- a field of at most seven bytes leaves room for one more
pub seven_bytes : (bytes : List ℕ) → ((i : ℕ) → get_or bytes i 0 < 256) → (at width : ℕ) → width ≤ 7 → field_at bytes at width < 2 ^ 56
seven_bytes bytes h at width w = lt_of_lt_of_le (small bytes h at width) (pow_mono {j = 56} (omega arith))
