-- `TruePeak::new` meets its contract: the literal 0.0 is +0. Assumes nothing.
use mathlib.Core.Path.{refl}
use lib.Ieee.{of_bits}
use Rattle.true_peak_state.proofs.TruePeak.new.Goals as goal

pub returns : goal.returns
unfolding of_bits
returns c = refl
