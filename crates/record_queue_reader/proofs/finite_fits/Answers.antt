-- `record_queue_reader::finite_fits` meets its contract: below infinity's pattern the comparison is the whole test. Assumes nothing.
use Rattle.std.proofs.Common.{◌∙◌, sym}
use borrow.Author.Tests.{le-ltb}
use Rattle.record_queue_reader.proofs.Patterns.{finite_is, not_finite, below_infinity}
use Rattle.record_queue_reader.proofs.finite_fits.Goals as goal

pub float_from_bits-result : goal.float_from_bits-result
float_from_bits-result c = below_infinity c.args.pattern c.if-pattern-lt-INFINITY_PATTERN.true

pub returns-then-pattern-lt-INFINITY_PATTERN : goal.returns-then-pattern-lt-INFINITY_PATTERN
returns-then-pattern-lt-INFINITY_PATTERN c = rw c.lowest_boundary.ensures (finite_is c.args.pattern c.if-pattern-lt-INFINITY_PATTERN.true)

pub returns-else-pattern-lt-INFINITY_PATTERN : goal.returns-else-pattern-lt-INFINITY_PATTERN
returns-else-pattern-lt-INFINITY_PATTERN c =
    let above = c.if-pattern-lt-INFINITY_PATTERN.false in
    le-ltb c.args.pattern _ above ∙ sym (not_finite c.args.pattern above)
