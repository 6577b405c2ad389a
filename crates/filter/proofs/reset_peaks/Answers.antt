-- `reset_peaks` meets its contract: the literal 0.0 is +0. Assumes nothing.
use lib.Ieee.{of_bits}
use Rattle.filter.proofs.reset_peaks.Goals as goal

pub returns : goal.returns
unfolding of_bits
returns c = c.with.ensures
