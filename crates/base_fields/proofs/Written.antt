-- The bytes of a number: how many they are, that the field of them is the number again, and that the bytes of a field's number are its bytes again.
-- Each is an induction on the width. Assumes nothing.
use mathlib.Core.Path.{◌≡◌, refl, sym, ap, ◌∙◌}
use mathlib.Core.List.{List, [], ◌∷◌, ◌++◌, append_assoc, append-nil}
use Prim.Native.Nat.{ℕ, zero, suc, ◌+◌, ◌-◌, ◌*◌, ◌/◌, ◌%◌, ◌^◌, ◌<◌, ◌≤◌}
use native.Mathlib.Nat.{mod-add-div, add-mul-mod_self_left, mod-eq_of_lt, add-mul-div_left, div-eq_of_lt}
use native.Mathlib.Numerals.{add-one}
use native.Mathlib.Omega.{arith}
use lib.ListN.{length, get_or, take, drop, set}
use lib.Seq.{drop-cons, get_or-drop, get_or-take, take-suc-set, take_all}
use Rattle.base_fields.specs.Field.{field_at, low_bytes}
use Rattle.base_fields.proofs.Fields.{times_256}

pub low_length : (width number : ℕ) → length (low_bytes width number) ≡ width
unfolding low_bytes
low_length zero number = refl
low_length (suc width) number = ap suc (low_length width (number / 256))

-- a field further on is a field of what stands from a place on
pub field_from : (bytes : List ℕ) (from at place width : ℕ) → at ≡ from + place → field_at bytes at width ≡ field_at (drop from bytes) place width
unfolding field_at
field_from bytes from at place zero e = refl
field_from bytes from at place (suc width) e =
    let here : get_or bytes at 0 ≡ get_or (drop from bytes) place 0 = ap (λ (p : ℕ). get_or bytes p 0) e ∙ sym (get_or-drop from bytes place 0) in
    let rest : field_at bytes (suc at) width ≡ field_at (drop from bytes) (suc place) width = field_from bytes from (suc at) (suc place) width (omega arith) in
    rw (here, rest)

-- a field that lies in a part of the bytes
pub field_within : (bytes : List ℕ) (n at place from width : ℕ) → from ≡ at + place → place + width ≤ n
    → field_at (take n (drop at bytes)) place width ≡ field_at bytes from width
unfolding field_at
field_within bytes n at place from zero e h = refl
field_within bytes n at place from (suc width) e h =
    let here : get_or (take n (drop at bytes)) place 0 ≡ get_or bytes from 0 =
    get_or-take n (drop at bytes) place 0 (omega arith) ∙ get_or-drop at bytes place 0 ∙ ap (λ (p : ℕ). get_or bytes p 0) (sym e) in
    rw (here, field_within bytes n at (suc place) (suc from) width (omega arith) (omega arith))

-- the field of a number's bytes is the number
pub read_low : (width number : ℕ) (rest : List ℕ) → number < 2 ^ (8 * width) → field_at (low_bytes width number ++ rest) 0 width ≡ number
unfolding field_at low_bytes
read_low zero number rest h = omega arith
read_low (suc width) number rest h =
    let others = low_bytes width (number / 256) ++ rest in
    let next : field_at (number % 256 ∷ others) 1 width ≡ field_at others 0 width = field_from (number % 256 ∷ others) 1 1 0 width (omega arith) in
    let again : field_at others 0 width ≡ number / 256 = read_low width (number / 256) rest (omega (arith, times_256 width, mod-add-div number 256)) in
    omega (arith, mod-add-div number 256)

-- the bytes of a field's number are the field's bytes
pub low_field : (bytes : List ℕ) → ((i : ℕ) → get_or bytes i 0 < 256) → (at width : ℕ) → at + width ≤ length bytes
    → low_bytes width (field_at bytes at width) ≡ take width (drop at bytes)
unfolding field_at low_bytes
low_field bytes b at zero h = refl
low_field bytes b at (suc width) h =
    let rest = field_at bytes (suc at) width in
    let first : (get_or bytes at 0 + 256 * rest) % 256 ≡ get_or bytes at 0 = add-mul-mod_self_left (get_or bytes at 0) 256 rest ∙ mod-eq_of_lt (b at) in
    let others : (get_or bytes at 0 + 256 * rest) / 256 ≡ rest = add-mul-div_left (get_or bytes at 0) rest {y = 256} (omega arith) ∙ ap (λ (n : ℕ). n + rest) (div-eq_of_lt (b at)) ∙ omega arith in
    rw (first, others, low_field bytes b (suc at) width (omega arith), drop-cons bytes at 0 (omega arith))

-- one byte of a number written, and the rest to come
pub low_turn : (field : List ℕ) (i width left : ℕ) → i < length field → width ≡ suc (length field - (i + 1))
    → take (i + 1) (set field i (left % 256)) ++ low_bytes (length field - (i + 1)) (left / 256) ≡ take i field ++ low_bytes width left
unfolding low_bytes
low_turn field i width left h w =
    rw (w, add-one i, take-suc-set field i (left % 256) h) (append_assoc (take i field) (left % 256 ∷ []) (low_bytes (length field - suc i) (left / 256)))

pub low_end : (field : List ℕ) (i left : ℕ) → length field ≤ i → take i field ++ low_bytes (length field - i) left ≡ field
unfolding low_bytes
low_end field i left h =
    let z : length field - i ≡ 0 = omega arith in
    rw (z, take_all i field h) (append-nil field)
