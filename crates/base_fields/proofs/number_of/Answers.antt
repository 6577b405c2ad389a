-- `base_fields::number_of` meets its contract. The invariants: `number` is the field of the bytes that were passed, from the end or from the start. Assumes nothing.
use Rattle.std.proofs.Common.{◌≡◌, ℕ, ◌+◌, ◌-◌, length, take, List, reverse, arith}
use Rattle.base_fields.specs.Field.{field_at}
use Rattle.base_fields.proofs.Fields.{first_byte, seven_bytes}
use Rattle.base_fields.proofs.Turned.{turned_bytes, first_bytes}
use Rattle.base_fields.proofs.High.{one_byte_on}
use Rattle.base_fields.proofs.number_of.Goals as goal

none : (bytes : List ℕ) (at n : ℕ) → n ≡ 0 → 0 ≡ field_at bytes at n
unfolding field_at
none bytes at n z = rw z

pub loop-place-init : goal.loop-place-init
loop-place-init c = none c.args.field.now _ _ (omega arith)

pub longer-number-requires : goal.longer-number-requires
longer-number-requires c =
    let field = c.args.field.now in
    let place = c.loop-place.place in
    omega (arith, seven_bytes field (λ i. omega (arith, c.type_inv.field i)) place (length field - place) (omega arith))

pub loop-place-preserved : goal.loop-place-preserved
loop-place-preserved c =
    let field = c.args.field.now in
    let place = c.loop-place.place in
    omega (arith, first_byte field (place - 1) place (length field - place) (length field - (place - 1)) (omega arith) (omega arith))

pub loop-low-init : goal.loop-low-init
loop-low-init c = none (reverse (take 0 c.args.field.now)) 0 0 (omega arith)

pub longer-number-requires-in-loop-low : goal.longer-number-requires-in-loop-low
longer-number-requires-in-loop-low c =
    let field = c.args.field.now in
    let i = c.loop-low.low-index in
    let passed = first_bytes i field (λ k. omega (arith, c.type_inv.field k)) in
    omega (arith, seven_bytes (reverse (take i field)) (turned_bytes (take i field) passed) 0 i (omega arith))

pub loop-low-preserved : goal.loop-low-preserved
loop-low-preserved c =
    let i = c.loop-low.low-index in
    omega (arith, one_byte_on c.args.field.now i (i + 1) (omega arith) (omega arith))
