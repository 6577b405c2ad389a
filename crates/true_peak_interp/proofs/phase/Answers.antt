-- `true_peak_interp::phase` meets its contract: the samples that are left, on top of the sum, give what all of them give. Assumes nothing.
use Rattle.std.proofs.Common.{◌+◌, ◌*◌, sym, ap, ◌∙◌}
use lib.ListN.{drop_of_length-le}
use Rattle.true_peak_interp.specs.Phase.{summed}
use Rattle.true_peak_interp.proofs.Sums.{summed_turn}
use Rattle.true_peak_interp.proofs.phase.Goals as goal

pub loop-i-preserved : goal.loop-i-preserved
loop-i-preserved c =
    let a = c.args in
    summed_turn a.taps.now a.factor a.f c.loop-i.sum a.samples.now c.loop-i.i c.loop-i-test.true ∙ c.loop-i.invariant

pub returns : goal.returns
unfolding summed
returns c =
    let a = c.args in
    let l = c.loop-i in
    sym (ap (summed a.taps.now a.factor (l.i * a.factor + a.f) l.sum) (drop_of_length-le a.samples.now c.loop-i-test.false)) ∙ l.invariant
