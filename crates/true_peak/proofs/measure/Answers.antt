-- `true_peak::measure` meets its contract: the rate has an interpolator, or nothing is measured. Assumes nothing.
use mathlib.Core.List.{map}
use mathlib.Core.Path.{ap, ◌∙◌}
use Rattle.true_peak_interp.specs.Interp.{Kind}
use Rattle.true_peak_state.specs.TruePeak.{measured}
use Rattle.true_peak_interp.proofs.Rates.{rate_known}
use Rattle.true_peak.proofs.measure.Goals as goal

pub all_channels-requires-clause-known : goal.all_channels-requires-clause-known
all_channels-requires-clause-known g c = rate_known c.args.rate c.in-Some.i c.in-Some.ensures

pub returns-in-Some : goal.returns-in-Some
returns-in-Some g c =
    let a = c.args in
    c.all_channels.ensures ∙ ap (λ (k : Kind). measured k (record { channels = a.channels; samples = map g.S.Sample.in_f32 a.samples.now }) a.t) c.in-Some.ensures

pub returns-in-None : goal.returns-in-None
unfolding measured
returns-in-None g c = let a = c.args in ap (λ (k : Kind). measured k (record { channels = a.channels; samples = map g.S.Sample.in_f32 a.samples.now }) a.t) c.in-None.ensures
