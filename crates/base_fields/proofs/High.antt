-- A field high byte first, read a byte at a time from its start; and fields that have no more bytes than are asked for. Assumes nothing.
use mathlib.Core.Path.{◌≡◌}
use mathlib.Core.List.{List, [], ◌∷◌, reverse, reverse-append}
use Prim.Native.Nat.{ℕ, suc, ◌+◌, ◌-◌, ◌*◌, ◌<◌, ◌≤◌}
use native.Mathlib.Omega.{arith}
use lib.ListN.{length, get_or, take, length-reverse}
use lib.Seq.{take_all, take-length, take-suc}
use Rattle.base_fields.specs.declared.Order.{Order}
use Rattle.base_fields.specs.declared.Order.TheVariants.{LowFirst, HighFirst}
use Rattle.base_fields.specs.Field.{field_at, number_in}
use Rattle.base_fields.proofs.Fields.{two_fields, past_end}
use Rattle.base_fields.proofs.Written.{field_from}

-- one byte more is read
pub one_byte_on : (field : List ℕ) (i next : ℕ) → next ≡ suc i → i < length field
    → field_at (reverse (take next field)) 0 next ≡ get_or field i 0 + 256 * field_at (reverse (take i field)) 0 i
unfolding field_at
one_byte_on field i next e h =
    let byte = get_or field i 0 in
    let passed = reverse (take i field) in
    let turned : reverse (take next field) ≡ byte ∷ passed = rw (e, take-suc field i 0 h) (reverse-append (take i field) (byte ∷ [])) in
    rw (turned, e, field_from (byte ∷ passed) 1 1 0 i (omega arith))

-- the number of a field that has no more bytes than are asked for
pub all_bytes : (order : Order) (width : ℕ) (field : List ℕ) → length field ≤ width → number_in order width field ≡ number_in order (length field) field
all_bytes LowFirst width field h =
    let past = past_end field (length field) (width - length field) (omega arith) in
    rw (two_fields field 0 (length field) (length field) (width - length field) width (omega arith) (omega arith), past) (omega arith)
all_bytes HighFirst width field h =
    let n = length-reverse field in
    let past = past_end (reverse field) (length field) (width - length field) (omega arith) in
    rw (take_all width field h, take-length field, two_fields (reverse field) 0 (length field) (length field) (width - length field) width (omega arith) (omega arith), past)
    (omega arith)
