-- `true_peak_interp::Interp::twofold_phases` meets its contract: the constant is the table. Assumes nothing.
use lib.Ieee.{of_bits}
use Rattle.true_peak_interp.specs.Taps.{twofold}
use Rattle.true_peak_interp.proofs.Interp.twofold_phases.Goals as goal

pub returns : goal.returns
unfolding twofold of_bits
returns c = c.phases.ensures
