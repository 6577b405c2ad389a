-- `base_floats::float_of` meets its contract: past infinity's pattern are those of NaN. Assumes nothing.
use mathlib.Core.Path.{sym}
use native.Mathlib.Omega.{arith}
use lib.Ieee.{div, of_bits}
use Rattle.base_floats.proofs.Nan.{to_infinity, past_infinity}
use Rattle.base_floats.proofs.float_of.Goals as goal

pub float_from_bits-result : goal.float_from_bits-result
float_from_bits-result c = to_infinity c.args.pattern (omega arith)

pub returns : goal.returns
unfolding div of_bits
returns c = sym (past_infinity c.args.pattern (omega arith))
