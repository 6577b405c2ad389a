-- `threshold::threshold_of` meets its contract: the code's 0.1 is the f64 nearest 1/10. Assumes nothing.
use Rattle.std.proofs.Common.{◌≡◌, refl}
use lib.Ieee.{binary64, of_bits, round}
use Rattle.gate.specs.Relative.{tenth}
use Rattle.gate.proofs.threshold.threshold_of.Goals as goal

the_tenth : of_bits binary64 0x3fb9_9999_9999_999a ≡ tenth
unfolding tenth of_bits round
the_tenth = refl

pub returns : goal.returns
returns c = rw (the_tenth, c.mean.ensures)
