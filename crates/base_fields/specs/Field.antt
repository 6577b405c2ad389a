-- A field is a run of bytes that stands for a number: the number in it, and the bytes of a number. Low byte first, and over the order of the bytes: high byte
-- first is low byte first of the bytes turned round.
use Rattle.std.specs.Prelude.{ℕ, zero, suc, ◌+◌, ◌*◌, ◌/◌, ◌%◌, List, [], ◌∷◌, reverse, cond, ltb, get_or, take}
use Rattle.base_fields.specs.declared.Order.{Order}
use Rattle.base_fields.specs.declared.Order.TheVariants.{LowFirst, HighFirst}

-- the bytes of a number of 32 bits, and of one of 64, the widest field
abbrev pub word_width : ℕ
word_width = 4

abbrev pub widest : ℕ
widest = 8

abbrev pub narrowed : ℕ → ℕ
narrowed width = cond (ltb width widest) width widest

-- the number in the field of so many bytes at a place. A byte past the end counts as 0
unfoldable pub field_at : List ℕ → ℕ → ℕ → ℕ
field_at bytes at zero = 0
field_at bytes at (suc width) = get_or bytes at 0 + 256 * field_at bytes (suc at) width

-- the bytes of a number in a field of so many bytes
unfoldable pub low_bytes : ℕ → ℕ → List ℕ
low_bytes zero number = []
low_bytes (suc width) number = number % 256 ∷ low_bytes width (number / 256)

-- the number whose bytes are those of a number of so many bytes the other way round
unfoldable pub turned_round : ℕ → ℕ → ℕ
turned_round width number = field_at (reverse (low_bytes width number)) 0 width

-- ---- in an order of the bytes
abbrev pub other : Order → Order
other LowFirst = HighFirst
other HighFirst = LowFirst

-- the number in the first so many bytes
abbrev pub number_in : Order → ℕ → List ℕ → ℕ
number_in LowFirst width bytes = field_at bytes 0 width
number_in HighFirst width bytes = field_at (reverse (take width bytes)) 0 width

-- the bytes of a number in a field of so many bytes
abbrev pub bytes_of : Order → ℕ → ℕ → List ℕ
bytes_of LowFirst width number = low_bytes width number
bytes_of HighFirst width number = reverse (low_bytes width number)
