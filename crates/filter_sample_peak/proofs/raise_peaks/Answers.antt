-- `filter_sample_peak::raise_peaks` meets its contract: the channels left, from the peaks as they are, give what all of them give. Assumes nothing.
use Rattle.std.proofs.Common.{set, sym, ap, ◌∙◌}
use Rattle.filter_sample_peak.proofs.Loudest.{raises, channels_start, channels_again, channels_end}
use Rattle.filter_sample_peak.proofs.raise_peaks.Goals as goal

pub loop-k-init : goal.loop-k-init
loop-k-init c = channels_start (raises c.args.tops.values) c.args.channels c.args.stored.values

pub loop-k-preserved : goal.loop-k-preserved
loop-k-preserved c =
    let l = c.loop-k in
    let a = c.args in
    channels_again (raises a.tops.values) a.channels l.k l.w.values _ c.loop-k-test.true (ap (set l.w.values l.k) c.greater_of.ensures) ∙ l.invariant

pub returns : goal.returns
returns c =
    let l = c.loop-k in
    let a = c.args in
    sym (channels_end (raises a.tops.values) a.channels l.k l.w.values c.loop-k-test.false) ∙ l.invariant
