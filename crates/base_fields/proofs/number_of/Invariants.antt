use Rattle.std.proofs.Common.{◌≡◌, ◌-◌, length, take, reverse}
use Rattle.base_fields.specs.Field.{field_at}
use Rattle.base_fields.proofs.number_of.Given as goal

abbrev pub invariant-loop-place : goal.invariant-loop-place
invariant-loop-place l = l.number ≡ field_at l.field l.place (length l.field - l.place)

abbrev pub invariant-loop-low : goal.invariant-loop-low
invariant-loop-low l = l.number ≡ field_at (reverse (take l.low-index l.field)) 0 l.low-index
