use Rattle.std.proofs.Common.{◌≡◌, ◌-◌, ◌++◌, length, take}
use Rattle.base_fields.specs.Field.{low_bytes}
use Rattle.base_fields.proofs.put_number.Given as goal

abbrev pub invariant-loop-byte : goal.invariant-loop-byte
invariant-loop-byte l = take l.byte-index l.field ++ low_bytes (length l.field - l.byte-index) l.left ≡ low_bytes (length l.initial.field) l.number
