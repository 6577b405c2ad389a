-- `samples::i16_to_f64` meets its contract: the literal 32768.0 is the float of the whole number. Assumes nothing.
use Rattle.std.proofs.Common.{ap, w16}
use lib.Ieee.{of_int, of_bits}
use mir.ValLaws.{to_z-of_z}
use Rattle.samples.specs.Sample.{sample_in, sample_of16}
use Rattle.samples.proofs.i16_to_f64.Goals as goal

pub returns : goal.returns
unfolding sample_in of_int of_bits
returns c = ap sample_of16 (to_z-of_z w16 c.args.s c.ranges.s)
