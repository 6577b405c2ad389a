-- Fields one after the other, the bytes of each turned round: how many bytes they are, one turn of a loop that writes them, and that they are the fields'
-- numbers as the other order of bytes has them. Each is an induction on how many there are. Assumes nothing.
use mathlib.Core.Path.{◌≡◌, refl, sym, ap, ◌∙◌}
use mathlib.Core.List.{List, ◌++◌, reverse}
use Prim.Native.Nat.{ℕ, zero, suc, ◌+◌, ◌*◌, ◌≤◌, ◌<◌}
use native.Mathlib.Omega.{arith}
use lib.ListN.{length, get_or, take, drop, length-append, length-drop, length-reverse}
use lib.Seq.{sets, drop-drop, get_or-drop, length-take-le}
use Rattle.base_fields.specs.declared.Order.{Order}
use Rattle.base_fields.specs.Field.{other}
use Rattle.base_fields.proofs.Orders.{turned_field}
use Rattle.record_layout.specs.Layout.{numbers_in, all_bytes}
use Rattle.record_layout.proofs.Turns.{sets_append}
use Rattle.record_conversion.specs.declared.Field.{Field}
use Rattle.record_conversion.specs.declared.Field.TheVariants.{Word, DoubleWord}
use Rattle.record_conversion.specs.Inner.{width_of, each_turned}

field_length : (width : ℕ) (bytes : List ℕ) → width ≤ length bytes → length (reverse (take width bytes)) ≡ width
field_length width bytes h = length-reverse (take width bytes) ∙ length-take-le width bytes h

pub turned_length : (width count : ℕ) (bytes : List ℕ) → width * count ≤ length bytes → length (each_turned width count bytes) ≡ width * count
unfolding each_turned
turned_length width zero bytes h = omega arith
turned_length width (suc count) bytes h =
    let first = field_length width bytes (omega arith) in
    let rest = turned_length width count (drop width bytes) (omega (arith, length-drop width bytes)) in
    omega (arith, length-append (reverse (take width bytes)) (each_turned width count (drop width bytes)), first, rest)

-- one field, and the others
pub turned_turn : (width : ℕ) (bytes out : List ℕ) (at next n k : ℕ) → n ≡ suc k → next ≡ at + width → at + width ≤ length bytes
    → sets (sets out at (reverse (take width (drop at bytes)))) next (each_turned width k (drop next bytes)) ≡ sets out at (each_turned width n (drop at bytes))
unfolding each_turned
turned_turn width bytes out at next n k more on h =
    let field = reverse (take width (drop at bytes)) in
    let l = field_length width (drop at bytes) (omega (arith, length-drop at bytes)) in
    rw (more, on, ← drop-drop width at bytes) (sym (sets_append out field (each_turned width k (drop width (drop at bytes))) at (at + width) (omega (arith, l))))

pub turned_end : (width : ℕ) (bytes out : List ℕ) (at n : ℕ) → n ≡ 0 → sets out at (each_turned width n bytes) ≡ out
unfolding each_turned
turned_end width bytes out at n z = rw z

-- ---- what the other order writes
pub turned_numbers : (order : Order) (width count : ℕ) (bytes : List ℕ) → ((i : ℕ) → get_or bytes i 0 < 256) → width * count ≤ length bytes
    → all_bytes (other order) width (numbers_in order width count bytes) ≡ each_turned width count bytes
unfolding each_turned numbers_in all_bytes
turned_numbers order width zero bytes b h = refl
turned_numbers order width (suc count) bytes b h =
    rw (turned_field order width bytes b (omega arith))
    (ap (λ (l : List ℕ). reverse (take width bytes) ++ l)
    (turned_numbers order width count (drop width bytes) (λ i. rw (get_or-drop width bytes i 0) (b (width + i))) (omega (arith, length-drop width bytes))))

-- ---- places
-- a field before the last has its place among them all
pub within : (field : Field) (width i count : ℕ) → width ≡ width_of field → i < count → width * i + width ≤ width_of field * count
within Word width i count w h = rw w (omega arith)
within DoubleWord width i count w h = rw w (omega arith)

pub next_place_lem : (field : Field) (width i : ℕ) → width ≡ width_of field → width * (i + 1) ≡ width * i + width
next_place_lem Word width i w = rw w (omega arith)
next_place_lem DoubleWord width i w = rw w (omega arith)
