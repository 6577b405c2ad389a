-- `true_peak_interp::phases` meets its contract: each phase stands at its place, and the phases look at all samples. Assumes nothing.
use Rattle.std.proofs.Common.{◌≡◌, ◌≢◌, ◌+◌, ◌<◌, List, length, take, sym, ap, arith, ◌∙◌, below_more, get_or-set_other, get_or-set_same}
use lib.ListN.{length-set}
use Rattle.std.specs.Float.{Float}
use lib.Seq.{take_all}
use Rattle.true_peak_interp.specs.Phase.{phase, phases_from, phases_by}
use Rattle.true_peak_interp.proofs.Sums.{each_phase}
use Rattle.true_peak_interp.proofs.phases.Goals as goal

pub loop-f-preserved : goal.loop-f-preserved
loop-f-preserved g c = let lt : c.loop-f.f < length c.loop-f.p-items = omega arith in (
  length-set c.loop-f.p-items c.loop-f.f _ ∙ c.loop-f.invariant.0,
  below_more _ _
      (λ k h. let ne : k ≢ c.loop-f.f = omega arith in rw get_or-set_other (c.loop-f.invariant.1 k h))
      (rw get_or-set_same c.phase.ensures),
)

pub returns : goal.returns
unfolding phases_by
returns g c =
    let samples = c.args.samples.now in
    let whole : take g.row.TAPS samples ≡ samples = take_all g.row.TAPS samples (omega arith) in
    let end : g.row.FACTOR ≡ c.loop-f.f = omega arith in
    each_phase c.args.taps.now g.row.FACTOR samples c.loop-f.p-items 0 g.row.FACTOR c.loop-f.invariant.0 (λ k h. let z : k ≡ 0 + k = omega arith in c.loop-f.invariant.1 k (omega arith) ∙ ap (phase c.args.taps.now g.row.FACTOR samples) z)
    ∙ ap (λ (s : List Float). phases_from c.args.taps.now g.row.FACTOR s 0 g.row.FACTOR) (sym whole)
