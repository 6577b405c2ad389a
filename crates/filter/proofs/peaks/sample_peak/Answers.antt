-- `sample_peak` meets its contract: what is stored at the channel's place, and else 0. Assumes nothing.
use Rattle.std.proofs.Common.{ap, ◌∙◌, Option}
use Rattle.std.specs.Option.{unwrap_or}
use lib.Ieee.{Float, of_bits}
use Rattle.base_floats.specs.Entry.{plus_zero}
use Rattle.filter.proofs.Places.{peak_stored}
use Rattle.filter.proofs.peaks.sample_peak.Goals as goal

pub returns : goal.returns
unfolding of_bits
returns c =
    let a = c.args in
    c.unwrap_or.ensures ∙ ap (λ (o : Option Float). unwrap_or o plus_zero) c.stored.ensures ∙ peak_stored a.filter a.filter.peaks.values a.channel
