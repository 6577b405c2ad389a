-- `record_queue_reader::energy_of` meets its contract: of the patterns that fit, one is a NaN's. Assumes nothing.
use lib.Ieee.{div, of_bits}
use Rattle.record_queue_reader.proofs.Patterns.{own_nan, other_number}
use Rattle.record_queue_reader.proofs.energy_of.Goals as goal

pub returns-then-pattern-eq-NAN_PATTERN : goal.returns-then-pattern-eq-NAN_PATTERN
unfolding div of_bits
returns-then-pattern-eq-NAN_PATTERN c = own_nan c.args.pattern c.if-pattern-eq-NAN_PATTERN.true

pub float_from_bits-result : goal.float_from_bits-result
float_from_bits-result c = other_number c.args.pattern c.requires c.if-pattern-eq-NAN_PATTERN.false
