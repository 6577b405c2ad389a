-- The numbers that the library makes of four and of eight bytes are those of fields, and a number with its bytes swapped is the number turned round.
-- Assumes nothing.
use Rattle.std.proofs.Common.{◌≡◌, ℕ, suc, ◌+◌, ◌*◌, ◌/◌, List, length, get_or, take, reverse, refl, sym, ap, ◌∙◌, arith, length-take-le}
use Rattle.std.proofs.lemmas.List.{get_or-reverse}
use Rattle.std.proofs.Math.Nat.{div-div-eq-div-mul}
use Rattle.std.specs.Int.{w32, w64, to_le_bytes, from_le_bytes, from_be_bytes, swap_bytes}
use Rattle.std.specs.Array.{IsFirstChunk}
use Rattle.base_fields.specs.declared.Order.TheVariants.{LowFirst, HighFirst}
use Rattle.base_fields.specs.Field.{field_at, low_bytes, turned_round, number_in}
use Rattle.base_fields.proofs.Written.{low_length, field_within}

low_four_lem : (xs : List ℕ) → from_le_bytes w32 xs ≡ field_at xs 0 4
unfolding field_at
low_four_lem xs = omega arith

low_eight_lem : (xs : List ℕ) → from_le_bytes w64 xs ≡ field_at xs 0 8
unfolding field_at
low_eight_lem xs = omega arith

four_worth : (xs : List ℕ) → from_be_bytes w32 xs ≡ get_or xs 0 0 * 16777216 + get_or xs 1 0 * 65536 + get_or xs 2 0 * 256 + get_or xs 3 0
four_worth xs = refl

eight_worth : (xs : List ℕ) → from_be_bytes w64 xs
    ≡ get_or xs 0 0 * 72057594037927936 + get_or xs 1 0 * 281474976710656 + get_or xs 2 0 * 1099511627776 + get_or xs 3 0 * 4294967296
    + get_or xs 4 0 * 16777216 + get_or xs 5 0 * 65536 + get_or xs 6 0 * 256 + get_or xs 7 0
eight_worth xs = refl

from_end : (xs : List ℕ) (k i : ℕ) {n : ℕ} → length xs ≡ n → suc (k + i) ≡ n → get_or (reverse xs) k 0 ≡ get_or xs i 0
from_end xs k i l e = get_or-reverse xs k 0 (omega arith) ∙ ap (λ (j : ℕ). get_or xs j 0) (omega arith)

high_four_lem : (xs : List ℕ) → length xs ≡ 4 → from_be_bytes w32 xs ≡ field_at (reverse xs) 0 4
unfolding field_at
high_four_lem xs l = four_worth xs ∙ omega (arith, from_end xs 0 3 l refl, from_end xs 1 2 l refl, from_end xs 2 1 l refl, from_end xs 3 0 l refl)

high_eight_lem : (xs : List ℕ) → length xs ≡ 8 → from_be_bytes w64 xs ≡ field_at (reverse xs) 0 8
unfolding field_at
high_eight_lem xs l =
    eight_worth xs
    ∙ omega (
      arith,
      from_end xs 0 7 l refl,
      from_end xs 1 6 l refl,
      from_end xs 2 5 l refl,
      from_end xs 3 4 l refl,
      from_end xs 4 3 l refl,
      from_end xs 5 2 l refl,
      from_end xs 6 1 l refl,
      from_end xs 7 0 l refl,
    )

-- ---- the first bytes of a field
pub low_four : (bytes first : List ℕ) → IsFirstChunk bytes first 4 → from_le_bytes w32 first ≡ number_in LowFirst 4 bytes
low_four bytes first f = low_four_lem first ∙ rw f.same (field_within bytes 4 0 0 0 4 (omega arith) (omega arith))

pub high_four : (bytes first : List ℕ) → IsFirstChunk bytes first 4 → from_be_bytes w32 first ≡ number_in HighFirst 4 bytes
high_four bytes first f = rw f.same (high_four_lem (take 4 bytes) (length-take-le 4 bytes f.enough))

pub low_eight : (bytes first : List ℕ) → IsFirstChunk bytes first 8 → from_le_bytes w64 first ≡ number_in LowFirst 8 bytes
low_eight bytes first f = low_eight_lem first ∙ rw f.same (field_within bytes 8 0 0 0 8 (omega arith) (omega arith))

pub high_eight : (bytes first : List ℕ) → IsFirstChunk bytes first 8 → from_be_bytes w64 first ≡ number_in HighFirst 8 bytes
high_eight bytes first f = rw f.same (high_eight_lem (take 8 bytes) (length-take-le 8 bytes f.enough))

-- ---- bytes swapped
deeper : (n d e : ℕ) → e ≡ d * 256 → n / d / 256 ≡ n / e
deeper n d e h = div-div-eq-div-mul n d 256 ∙ ap (λ (k : ℕ). n / k) (sym h)

low_bytes_four : (n : ℕ) → to_le_bytes w32 n ≡ low_bytes 4 n
unfolding low_bytes
low_bytes_four n = rw (deeper n 256 65536 refl, deeper n 65536 16777216 refl)

low_bytes_eight : (n : ℕ) → to_le_bytes w64 n ≡ low_bytes 8 n
unfolding low_bytes
low_bytes_eight n =
    rw (
      deeper n 256 65536 refl,
      deeper n 65536 16777216 refl,
      deeper n 16777216 4294967296 refl,
      deeper n 4294967296 1099511627776 refl,
      deeper n 1099511627776 281474976710656 refl,
      deeper n 281474976710656 72057594037927936 refl,
    )

pub turned_four : (n : ℕ) → swap_bytes w32 n ≡ turned_round 4 n
unfolding turned_round
turned_four n = ap (from_be_bytes w32) (low_bytes_four n) ∙ high_four_lem (low_bytes 4 n) (low_length 4 n)

pub turned_eight : (n : ℕ) → swap_bytes w64 n ≡ turned_round 8 n
unfolding turned_round
turned_eight n = ap (from_be_bytes w64) (low_bytes_eight n) ∙ high_eight_lem (low_bytes 8 n) (low_length 8 n)
