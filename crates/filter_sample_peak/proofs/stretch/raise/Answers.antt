-- `stretch::raise` meets its contract: of x and -x only the one that is the magnitude can be above a top that is not below 0. Assumes nothing.
use mathlib.Core.Path.{ap, ◌∙◌}
use lib.Ieee.{neg}
use Rattle.base_floats.specs.Largest.{greater}
use Rattle.base_floats.proofs.Magnitude.{both_ways}
use Rattle.filter_sample_peak.proofs.stretch.raise.Goals as goal

pub returns : goal.returns
returns c =
    let s = c in
    c.greater_of.ensures ∙ ap (λ h. greater h (neg s.args.x)) c.greater_of-high.ensures ∙ both_ways s.args.top s.args.x s.requires
