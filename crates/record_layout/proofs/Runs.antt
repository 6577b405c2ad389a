-- Fields of one width, one after the other: how many bytes they are; that numbers written so are read again, and numbers read so are written again; how large
-- they are.
-- Each is an induction on how many there are. Assumes nothing.
use mathlib.Core.Path.{◌≡◌, refl, sym, ap, ◌∙◌}
use mathlib.Core.List.{List, [], ◌∷◌, ◌++◌, append_assoc}
use Prim.Native.Nat.{ℕ, zero, suc, ◌+◌, ◌*◌, ◌^◌, ◌≤◌, ◌<◌}
use native.Mathlib.Omega.{arith}
use lib.ListN.{length, get_or, take, drop, length-append, length-drop}
use lib.Pow.{pow_pos}
use lib.Seq.{drop_at, take-add, get_or-drop}
use Rattle.base_fields.specs.declared.Order.{Order}
use Rattle.base_fields.specs.Field.{bytes_of}
use Rattle.base_fields.proofs.Orders.{bytes_length, read_again, write_again, number_small}
use Rattle.record_layout.specs.Layout.{numbers_in, all_bytes}

pub numbers_length : (order : Order) (width count : ℕ) (bytes : List ℕ) → length (numbers_in order width count bytes) ≡ count
unfolding numbers_in
numbers_length order width zero bytes = refl
numbers_length order width (suc count) bytes = ap suc (numbers_length order width count (drop width bytes))

pub all_length : (order : Order) (width : ℕ) (numbers : List ℕ) → length (all_bytes order width numbers) ≡ width * length numbers
unfolding all_bytes
all_length order width [] = omega arith
all_length order width (number ∷ rest) =
    simp length-append (omega (arith, bytes_length order width number, all_length order width rest))

-- numbers that fit their fields are read again
pub all_read : (order : Order) (width : ℕ) (numbers rest : List ℕ) → ((i : ℕ) → get_or numbers i 0 < 2 ^ (8 * width))
    → numbers_in order width (length numbers) (all_bytes order width numbers ++ rest) ≡ numbers
unfolding numbers_in all_bytes
all_read order width [] rest h = refl
all_read order width (number ∷ numbers) rest h =
    let first = bytes_of order width number in
    let others = all_bytes order width numbers in
    rw (append_assoc first others rest, read_again order width number (others ++ rest) (h 0), drop_at first (others ++ rest) width (bytes_length order width number))
    (ap {B = List ℕ} (λ l. number ∷ l) (all_read order width numbers rest (λ i. h (suc i))))

-- numbers that were read are written again
pub all_written : (order : Order) (width count : ℕ) (bytes : List ℕ) → ((i : ℕ) → get_or bytes i 0 < 256) → width * count ≤ length bytes
    → all_bytes order width (numbers_in order width count bytes) ≡ take (width * count) bytes
unfolding numbers_in all_bytes
all_written order width zero bytes b h = ap (λ (n : ℕ). take n bytes) {x = 0} {y = width * 0} (omega arith)
all_written order width (suc count) bytes b h =
    let more : width * suc count ≡ width + width * count = omega arith in
    rw (more, take-add width (width * count) bytes, write_again order width bytes b (omega arith))
    (ap {B = List ℕ} (λ l. take width bytes ++ l)
    (all_written order width count (drop width bytes) (λ i. rw (get_or-drop width bytes i 0) (b (width + i))) (omega (arith, length-drop width bytes))))

-- each number read fits its field
pub numbers_small : (order : Order) (width count : ℕ) (bytes : List ℕ) → ((i : ℕ) → get_or bytes i 0 < 256) → (i : ℕ) → get_or (numbers_in order width count bytes) i 0 < 2 ^ (8 * width)
unfolding numbers_in
numbers_small order width zero bytes b i = pow_pos (8 * width)
numbers_small order width (suc count) bytes b zero = number_small order width bytes b
numbers_small order width (suc count) bytes b (suc i) = numbers_small order width count (drop width bytes) (λ j. rw (get_or-drop width bytes j 0) (b (width + j))) i

-- the bytes of numbers and then more of them
pub all_append : (order : Order) (width : ℕ) (a b : List ℕ) → all_bytes order width (a ++ b) ≡ all_bytes order width a ++ all_bytes order width b
unfolding all_bytes
all_append order width [] b = refl
all_append order width (x ∷ a) b =
    ap (λ (l : List ℕ). bytes_of order width x ++ l) (all_append order width a b)
    ∙ sym (append_assoc (bytes_of order width x) (all_bytes order width a) (all_bytes order width b))
