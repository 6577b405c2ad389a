-- `order_split::depth_for` meets its contract: a number that is not zero has one binary digit more than its logarithm says. Assumes nothing.
use native.Mathlib.Omega.{arith}
use mathlib.Core.Path.{ap}
use lib.Ieee.{size}
use Rattle.order_split.proofs.Depth.{digits, no_digits}
use Rattle.order_split.proofs.depth_for.Goals as goal

pub returns-then-n-eq0 : goal.returns-then-n-eq0
returns-then-n-eq0 c = omega (arith, ap size c.if-n-eq0.true, no_digits)

pub returns : goal.returns
returns c = omega (arith, digits c.args.n c.ilog2.result c.ilog2.ensures.power_le c.ilog2.ensures.next_power_gt)
