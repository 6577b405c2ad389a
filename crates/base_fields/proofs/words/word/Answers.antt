-- `words::word` meets its contract: a field that has four bytes is the library's number of them, and a shorter one the number in all its bytes. Assumes nothing.
use Rattle.std.proofs.Common.{arith, rules}
use Rattle.base_fields.proofs.Orders.{number_small}
use Rattle.base_fields.proofs.Chunks.{low_four, high_four}
use Rattle.base_fields.proofs.High.{all_bytes}
use Rattle.base_fields.proofs.words.word.Goals as goal

pub returns-in-LowFirst : goal.returns-in-LowFirst
returns-in-LowFirst c =
    rw c.in-LowFirst.is (omega (arith, low_four c.args.field.now c.in-Some.bytes.now c.in-Some.ensures.cases))

pub returns-in-HighFirst : goal.returns-in-HighFirst
returns-in-HighFirst c =
    rw c.in-HighFirst.is (omega (arith, high_four c.args.field.now c.in-Some.bytes.now c.in-Some.ensures.cases))

pub overflow_cast-result : goal.overflow_cast-result
overflow_cast-result c =
    let field = c.args.field.now in
    let all = all_bytes c.args.order 4 field (search rules) in
    record { fits = omega (arith, all, number_small c.args.order 4 field (λ i. omega (arith, c.type_inv.field i))) }

pub returns-in-None : goal.returns-in-None
returns-in-None c = omega (arith, all_bytes c.args.order 4 c.args.field.now (search rules))
