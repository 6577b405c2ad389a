-- `spans::gate_share` meets its contract: the code's 0.01 is the f64 nearest 1/100. Assumes nothing.
use Rattle.std.proofs.Common.{refl}
use lib.Ieee.{of_bits, round}
use Rattle.range_ranks.specs.Span.{hundredth}
use Rattle.range_ranks.proofs.spans.gate_share.Goals as goal

pub returns : goal.returns
unfolding hundredth of_bits round
returns c = refl
