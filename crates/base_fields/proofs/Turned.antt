-- Bytes turned round are bytes still, and the number in them has them again.
-- Assumes nothing.
use mathlib.Core.Path.{◌≡◌, ◌∙◌}
use mathlib.Core.List.{List, [], ◌∷◌, reverse, reverse_aux}
use Prim.Native.Nat.{ℕ, zero, suc, ◌/◌, ◌<◌}
use native.Mathlib.Omega.{arith}
use lib.ListN.{length, get_or, take, length-reverse}
use lib.Seq.{take_all}
use Rattle.base_fields.specs.Field.{field_at, low_bytes}
use Rattle.base_fields.proofs.Written.{low_field}

abbrev Bytes : List ℕ → Type 0
Bytes l = (i : ℕ) → get_or l i 0 < 256

one_more_lem : (byte : ℕ) (bytes : List ℕ) → byte < 256 → Bytes bytes → Bytes (byte ∷ bytes)
one_more_lem byte bytes h b zero = h
one_more_lem byte bytes h b (suc i) = b i

turned_onto : (bytes others : List ℕ) → Bytes bytes → Bytes others → Bytes (reverse_aux bytes others)
turned_onto [] others b o = o
turned_onto (byte ∷ bytes) others b o = turned_onto bytes (byte ∷ others) (λ i. b (suc i)) (one_more_lem byte others (b 0) o)

pub turned_bytes : (bytes : List ℕ) → ((i : ℕ) → get_or bytes i 0 < 256) → (i : ℕ) → get_or (reverse bytes) i 0 < 256
turned_bytes bytes b = turned_onto bytes [] b (λ i. omega arith)

pub first_bytes : (n : ℕ) (bytes : List ℕ) → ((i : ℕ) → get_or bytes i 0 < 256) → (i : ℕ) → get_or (take n bytes) i 0 < 256
first_bytes zero bytes b i = omega arith
first_bytes (suc n) [] b i = omega arith
first_bytes (suc n) (byte ∷ bytes) b i = one_more_lem byte (take n bytes) (b 0) (first_bytes n bytes (λ i. b (suc i))) i

pub low_bytes_lem : (width number : ℕ) (i : ℕ) → get_or (low_bytes width number) i 0 < 256
unfolding low_bytes
low_bytes_lem zero number i = omega arith
low_bytes_lem (suc width) number zero = omega arith
low_bytes_lem (suc width) number (suc i) = low_bytes_lem width (number / 256) i

-- the bytes of the number in bytes turned round
pub low_of_turned : (bytes : List ℕ) → ((i : ℕ) → get_or bytes i 0 < 256) → (width : ℕ) → length bytes ≡ width
    → low_bytes width (field_at (reverse bytes) 0 width) ≡ reverse bytes
low_of_turned bytes b width l =
    let n = length-reverse bytes in
    low_field (reverse bytes) (turned_bytes bytes b) 0 width (omega arith) ∙ take_all width (reverse bytes) (omega arith)
