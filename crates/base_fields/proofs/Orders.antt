-- The laws of a field in an order of its bytes: how many bytes a number has, that the field of them is the number again, that the bytes of a field's number
-- are its bytes again, how large its number is, that nothing past it counts, and what the other order makes of its bytes. High byte first each is the law of
-- the low byte first, and that bytes turned round twice are as they were. Assumes nothing.
use mathlib.Core.Path.{◌≡◌, sym, ap, ◌∙◌}
use mathlib.Core.List.{List, [], ◌++◌, reverse, reverse-reverse, append-nil}
use Prim.Native.Nat.{ℕ, ◌*◌, ◌^◌, ◌<◌, ◌≤◌}
use native.Mathlib.Omega.{arith}
use lib.ListN.{length, get_or, take, length-reverse}
use lib.Seq.{length-take-le, take_at, take-take}
use Rattle.base_fields.specs.declared.Order.{Order}
use Rattle.base_fields.specs.declared.Order.TheVariants.{LowFirst, HighFirst}
use Rattle.base_fields.specs.Field.{field_at, low_bytes, turned_round, other, number_in, bytes_of}
use Rattle.base_fields.proofs.Fields.{small}
use Rattle.base_fields.proofs.Written.{low_length, field_within, read_low, low_field}
use Rattle.base_fields.proofs.Turned.{turned_bytes, first_bytes, low_bytes_lem, low_of_turned}

pub bytes_length : (order : Order) (width number : ℕ) → length (bytes_of order width number) ≡ width
bytes_length LowFirst width number = low_length width number
bytes_length HighFirst width number = length-reverse (low_bytes width number) ∙ low_length width number

pub read_again : (order : Order) (width number : ℕ) (rest : List ℕ) → number < 2 ^ (8 * width) → number_in order width (bytes_of order width number ++ rest) ≡ number
read_again LowFirst width number rest h = read_low width number rest h
read_again HighFirst width number rest h =
    let low = low_bytes width number in
    rw (take_at (reverse low) rest width (bytes_length HighFirst width number), reverse-reverse low, ← append-nil low) (read_low width number [] h)

-- what the other order writes of a field's number: the field's bytes turned round
pub turned_field : (order : Order) (width : ℕ) (bytes : List ℕ) → ((i : ℕ) → get_or bytes i 0 < 256) → width ≤ length bytes
    → bytes_of (other order) width (number_in order width bytes) ≡ reverse (take width bytes)
turned_field LowFirst width bytes b h = ap reverse (low_field bytes b 0 width (omega arith))
turned_field HighFirst width bytes b h = low_of_turned (take width bytes) (first_bytes width bytes b) width (length-take-le width bytes h)

pub write_again : (order : Order) (width : ℕ) (bytes : List ℕ) → ((i : ℕ) → get_or bytes i 0 < 256) → width ≤ length bytes
    → bytes_of order width (number_in order width bytes) ≡ take width bytes
write_again LowFirst width bytes b h = low_field bytes b 0 width (omega arith)
write_again HighFirst width bytes b h = ap reverse (turned_field HighFirst width bytes b h) ∙ reverse-reverse (take width bytes)

pub number_small : (order : Order) (width : ℕ) (bytes : List ℕ) → ((i : ℕ) → get_or bytes i 0 < 256) → number_in order width bytes < 2 ^ (8 * width)
number_small LowFirst width bytes b = small bytes b 0 width
number_small HighFirst width bytes b = small (reverse (take width bytes)) (turned_bytes (take width bytes) (first_bytes width bytes b)) 0 width

-- a field that lies in a part of the bytes
pub number_within : (order : Order) (width : ℕ) (bytes : List ℕ) (n : ℕ) → width ≤ n → number_in order width (take n bytes) ≡ number_in order width bytes
number_within LowFirst width bytes n h = field_within bytes n 0 0 0 width (omega arith) (omega arith)
number_within HighFirst width bytes n h = ap (λ (l : List ℕ). field_at (reverse l) 0 width) (take-take width n bytes h)

-- a number turned round, written low byte first, is the number written high byte first
pub turned_low : (width number : ℕ) → low_bytes width (turned_round width number) ≡ reverse (low_bytes width number)
unfolding turned_round
turned_low width number = low_of_turned (low_bytes width number) (low_bytes_lem width number) width (low_length width number)

-- a field that has its bytes, read in the other order, is its number turned round
pub turned_number : (order : Order) (width : ℕ) (bytes : List ℕ) → ((i : ℕ) → get_or bytes i 0 < 256) → width ≤ length bytes
    → number_in (other order) width bytes ≡ turned_round width (number_in order width bytes)
unfolding turned_round
turned_number LowFirst width bytes b h = ap (λ (l : List ℕ). field_at l 0 width) (sym (turned_field LowFirst width bytes b h))
turned_number HighFirst width bytes b h =
    sym (number_within LowFirst width bytes width (omega arith)) ∙ ap (λ (l : List ℕ). field_at l 0 width) (sym (write_again HighFirst width bytes b h))
