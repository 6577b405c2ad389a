-- `new` meets its contract: the literal 0.0 is +0. Assumes nothing.
use mathlib.Core.Path.{ap}
use lib.Ieee.{of_bits}
use Rattle.true_peak_state.specs.declared.TruePeak.{TruePeak}
use Rattle.filter.specs.Filter.{at_rest, no_peaks}
use Rattle.filter.proofs.new.Goals as goal

pub returns : goal.returns
unfolding of_bits
returns c =
    let a = c.args in
    ap (λ (t : TruePeak). record { channels = a.channels; rate = a.rate; switches = a.switches; coefficients = a.coefficients; state = at_rest; peaks = record { values = no_peaks }; true_peak = t }) c.new.ensures
