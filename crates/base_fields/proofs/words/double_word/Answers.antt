-- `words::double_word` meets its contract: a field that has eight bytes is the library's number of them, and a shorter one the number in all its bytes. Assumes nothing.
use Rattle.std.proofs.Common.{arith, rules}
use Rattle.base_fields.proofs.Chunks.{low_eight, high_eight}
use Rattle.base_fields.proofs.High.{all_bytes}
use Rattle.base_fields.proofs.words.double_word.Goals as goal

pub returns-in-LowFirst : goal.returns-in-LowFirst
returns-in-LowFirst c =
    rw c.in-LowFirst.is (omega (arith, low_eight c.args.field.now c.in-Some.bytes.now c.in-Some.ensures.cases))

pub returns-in-HighFirst : goal.returns-in-HighFirst
returns-in-HighFirst c =
    rw c.in-HighFirst.is (omega (arith, high_eight c.args.field.now c.in-Some.bytes.now c.in-Some.ensures.cases))

pub returns-in-None : goal.returns-in-None
returns-in-None c = omega (arith, all_bytes c.args.order 8 c.args.field.now (search rules))
