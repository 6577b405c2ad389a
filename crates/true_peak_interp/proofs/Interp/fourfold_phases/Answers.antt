-- `true_peak_interp::Interp::fourfold_phases` meets its contract: the constant is the table. Assumes nothing.
use lib.Ieee.{of_bits}
use Rattle.true_peak_interp.specs.Taps.{fourfold}
use Rattle.true_peak_interp.proofs.Interp.fourfold_phases.Goals as goal

pub returns : goal.returns
unfolding fourfold of_bits
returns c = c.phases.ensures
