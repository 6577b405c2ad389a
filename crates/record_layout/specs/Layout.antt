-- What records have in common (01, 'Records'): "little-endian: u32 length of what follows, u16 kind", then a body of fields. One description of these
-- fields stands behind readers, writers and their statements.
use Rattle.std.specs.Prelude.{ℕ, zero, suc, ◌+◌, ◌-◌, ◌*◌, Bool, not, cond, Option, None, Some, List, [], ◌∷◌, ◌++◌, eqb, leb, ltb, length, drop}
use Rattle.base_refusals.specs.declared.Refusal.TheVariants.{LENGTH, KIND, ROOM}
use Rattle.base_refusals.specs.Outcome.{Outcome, went, Question, answers, NoValues, done}
use Rattle.base_refusals.specs.Rows.{Row, row, by_rows}
use Rattle.base_fields.specs.declared.Order.{Order}
use Rattle.base_fields.specs.declared.Order.TheVariants.{LowFirst, HighFirst}
use Rattle.base_fields.specs.Field.{field_at, low_bytes, number_in, bytes_of}
use Rattle.record_layout.specs.declared.Model.{Model}
use Rattle.record_layout.specs.declared.Model.TheVariants.{Ours, Third}
use Rattle.record_layout.specs.declared.Kind.{Kind}
use Rattle.record_layout.specs.declared.Kind.TheVariants.{Histogram, Queue}

-- ---- fields one after the other
-- the numbers in so many fields of one width, one after the other
unfoldable pub numbers_in : Order → ℕ → ℕ → List ℕ → List ℕ
numbers_in order width zero bytes = []
numbers_in order width (suc count) bytes = number_in order width bytes ∷ numbers_in order width count (drop width bytes)

-- the bytes of numbers in fields of one width
unfoldable pub all_bytes : Order → ℕ → List ℕ → List ℕ
all_bytes order width [] = []
all_bytes order width (number ∷ rest) = bytes_of order width number ++ all_bytes order width rest

-- ---- widths and lengths
-- the bytes of the length field, of the kind, and of both
abbrev pub length_width : ℕ
length_width = 4

abbrev pub kind_width : ℕ
kind_width = 2

abbrev pub head_width : ℕ
head_width = 6

-- of a counter, of a queue's maximum or number held, and of an energy
abbrev pub count_width : ℕ
count_width = 4

abbrev pub number_width : ℕ
number_width = 4

abbrev pub energy_width : ℕ
energy_width = 8

-- the length of a histogram's record, the kind and 1,000 counters, and the least of a queue's, the kind and two numbers
abbrev pub histogram_length : ℕ
histogram_length = 4002

abbrev pub queue_least : ℕ
queue_least = 10

-- the bytes of a queue's record that holds no energy
abbrev pub least_length : ℕ
least_length = length_width + queue_least

-- ---- kinds
-- what the length field may say: one number for every record of a kind, or any from a least one on
pub data Extent : Type 0 where
  exactly : ℕ → Extent
  at_least : ℕ → Extent

abbrev pub allows : Extent → ℕ → Bool
allows (exactly n) following = eqb following n
allows (at_least least) following = leb least following

-- a kind of record: its number; the order of the bytes in each field of its body; what its length field may say; how many numbers stand in its body before
-- the counters or energies, and how many bytes each of these has
pub record Form : Type 0 where
  pub number : ℕ
  pub order : Order
  pub extent : Extent
  pub numbers : ℕ
  pub width : ℕ

-- what ours have, or what those of the third model have
abbrev pub of_model : {A : Type 0} → Model → A → A → A
of_model Ours ours third = ours
of_model Third ours third = third

-- "the old body with each field high byte first" (02, CR 3)
abbrev pub order_by : Model → Order
order_by model = of_model model LowFirst HighFirst

-- The table of kinds. 01: "Kind 1: 1,000 u32 counters (length 4,002). Kind 2: u32 maximum 1..36,000, u32 held, then that many u64 float patterns, oldest first."
-- 02, CR 3: "kind 257 (counters) and kind 258 (energies)"; "the byte order follows from the kind and from nothing else"
abbrev pub form_of : Kind → Form
form_of (Histogram model) =
    record { number = of_model model 1 257; order = order_by model; extent = exactly histogram_length; numbers = 0; width = count_width }
form_of (Queue model) =
    record { number = of_model model 2 258; order = order_by model; extent = at_least queue_least; numbers = 2; width = energy_width }

abbrev pub kind_number : Kind → ℕ
kind_number kind = (form_of kind).number

-- the kinds that there are, and the one that has a number, where one has
abbrev pub kinds : List Kind
kinds = Histogram Ours ∷ Queue Ours ∷ Histogram Third ∷ Queue Third ∷ []

abbrev pub known_among : ℕ → List Kind → Option Kind
known_among number [] = None
known_among number (kind ∷ rest) = cond (eqb number (kind_number kind)) (Some kind) (known_among number rest)

abbrev pub known_of : ℕ → Option Kind
known_of number = known_among number kinds

-- the order of the bytes in a body's fields follows from the kind
abbrev pub order_of : Kind → Order
order_of kind = (form_of kind).order

abbrev pub can_be : Kind → ℕ → Bool
can_be kind following = allows (form_of kind).extent following

-- where the first of a body's numbers stands, the second and so on; and behind them the counters or energies
abbrev pub place_of : ℕ → ℕ
place_of i = head_width + number_width * i

-- one of the numbers of a record
abbrev pub number_from : Kind → ℕ → List ℕ → ℕ
number_from kind i bytes = number_in (form_of kind).order number_width (drop (place_of i) bytes)

-- so many of its counters or energies, and their bytes
abbrev pub entries_in : Kind → ℕ → List ℕ → List ℕ
entries_in kind count bytes = numbers_in (form_of kind).order (form_of kind).width count (drop (place_of (form_of kind).numbers) bytes)

abbrev pub entry_bytes : Kind → List ℕ → List ℕ
entry_bytes kind numbers = all_bytes (form_of kind).order (form_of kind).width numbers

-- ---- reading
abbrev pub length_in : List ℕ → ℕ
length_in bytes = field_at bytes 0 length_width

abbrev pub kind_in : List ℕ → ℕ
kind_in bytes = field_at bytes length_width kind_width

abbrev pub body_in : List ℕ → List ℕ
body_in bytes = drop head_width bytes

-- "under 6 bytes LENGTH; KIND; length field unlike the bytes given, kind 1 unlike 4,002, kind 2 under 10, LENGTH"
abbrev pub frame_rows : Kind → List ℕ → List Row
frame_rows kind bytes =
    row LENGTH (ltb (length bytes) head_width)
    ∷ row KIND (not (eqb (kind_in bytes) (kind_number kind)))
    ∷ row LENGTH (not (eqb (length_in bytes) (length bytes - length_width)))
    ∷ row LENGTH (not (can_be kind (length_in bytes)))
    ∷ []

unfoldable pub frame_of : Kind → List ℕ → Question NoValues
frame_of kind bytes = by_rows (frame_rows kind bytes) (answers done)

-- ---- writing
-- the length of what follows and the kind
abbrev pub head_of : Kind → ℕ → List ℕ
head_of kind following = low_bytes length_width following ++ low_bytes kind_width (kind_number kind)

-- an output with a head at its first places. One that is too short stays
unfoldable pub with_head : Kind → ℕ → List ℕ → List ℕ
with_head kind following out = cond (leb head_width (length out)) (head_of kind following ++ drop head_width out) out

-- the record of a body
unfoldable pub record_of : Kind → List ℕ → List ℕ
record_of kind body = head_of kind (kind_width + length body) ++ body

-- ROOM: "output shorter than the record"
abbrev pub room_row : List ℕ → List ℕ → Row
room_row out bytes = row ROOM (ltb (length out) (length bytes))

-- "A writer touches only the record's bytes, from the output's first place, and answers their number."
abbrev pub written_to : List ℕ → List ℕ → Outcome (List ℕ) ℕ
written_to out bytes = went (bytes ++ drop (length bytes) out) (length bytes)
