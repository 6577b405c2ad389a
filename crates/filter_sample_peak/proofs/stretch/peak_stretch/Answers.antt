-- `stretch::peak_stretch` meets its contract: the channels left, from the tops as they are, give what all of them give.
-- A channel that is left has the top that it came with; its lanes give what the frames of the turns give. Assumes nothing.
use Rattle.std.proofs.Common.{◌≡◌, ℕ, ◌*◌, ◌/◌, ◌≤◌, length, get_or, set, sym, ap, subst, ◌∙◌, arith, div-add-mod', get_or-set_other}
use native.Mathlib.Nat.{div-div-eq-div-mul, mul_comm}
use lib.Ieee.{Float, nan, lt}
use Rattle.base_floats.specs.Entry.{plus_zero}
use Rattle.samples.specs.Frames.{column}
use Rattle.samples.proofs.Reaching.{reach_start}
use Rattle.base_floats.specs.Largest.{largest}
use Rattle.base_floats.proofs.Magnitude.{High, largest_high}
use Rattle.filter_sample_peak.proofs.Loudest.{peaks, channels_again, channels_end}
use Rattle.filter_sample_peak.proofs.Rest.{reach_after, after_first}
use Rattle.filter_sample_peak.proofs.Lanes.{within_lanes, lanes_give}
use Rattle.filter_sample_peak.proofs.stretch.peak_stretch.Goals as goal
use Rattle.filter_sample_peak.proofs.stretch.peak_stretch.Goals.{After-largest_on-high}

-- the frames of the turns are some of the frames
part : (count each : ℕ) → count / each * each ≤ count
part count each = omega (arith, div-add-mod' count each)

-- a channel that is left has the top that it came with
top_high : (c : After-largest_on-high) → High (get_or c.loop-k.w.values c.loop-k.k nan)
top_high c =
    let l = c.loop-k in
    ap (λ (x : Float). lt x plus_zero) (l.invariant.later l.k (omega arith)) ∙ c.requires.by_index l.k c.loop-k-test.true

pub largest_on-requires-clause-plus_zero_value : goal.largest_on-requires-clause-plus_zero_value
largest_on-requires-clause-plus_zero_value c =
    let l = c.loop-k in
    let a = c.args in
    ap (λ (x : Float). lt x plus_zero) c.largest_on-high.ensures
    ∙ largest_high (get_or l.w.values l.k nan) (column c.lanes_of-lanes.result.values l.k a.channels (24 / a.channels)) (top_high (goal.at.largest_on-requires-clause-plus_zero_value c).After-largest_on-high)

pub largest_on-requires-clause-reach : goal.largest_on-requires-clause-reach
largest_on-requires-clause-reach c =
    let a = c.args in
    let count = length a.stretch.now / a.channels in
    reach_after _ _ count _ _ (reach_start _ _ _ _ c.loop-k-test.true c.requires.whole.few (omega (arith, c.requires.whole.whole))) (part count (24 / a.channels))

pub loop-k-preserved : goal.loop-k-preserved
loop-k-preserved c =
    let l = c.loop-k in
    let a = c.args in
    let each = 24 / a.channels in
    let count = length a.stretch.now / a.channels in
    let turns = count / each in
    let top = get_or l.w.values l.k nan in
    let h = top_high (goal.at.loop-k-preserved c).After-largest_on-high in
    let same : length a.stretch.now / (each * a.channels) ≡ turns =
    ap (λ (n : ℕ). length a.stretch.now / n) (mul_comm each a.channels) ∙ sym (div-div-eq-div-mul (length a.stretch.now) a.channels each) in
    let lanes = lanes_give a.stretch.now c.lanes_of-lanes.result.values a.channels each turns l.k c.loop-k-test.true
    (omega (arith, within_lanes a.channels, c.lanes_of-lanes.ensures.values_len))
    (λ j q. subst (λ (n : ℕ). get_or c.lanes_of-lanes.result.values j nan ≡ largest plus_zero (column a.stretch.now j (each * a.channels) n)) same (c.lanes_of-lanes.ensures.by_index j q)) top h c.type_inv.stretch in
    let own = c.largest_on.ensures ∙ after_first top c.largest_on-high.result a.stretch.now l.k a.channels count (turns * each) (part count each) (c.largest_on-high.ensures ∙ lanes) in
    record {
      gives = channels_again (peaks a.stretch.now a.channels count) a.channels l.k l.w.values _ c.loop-k-test.true (ap (set l.w.values l.k) own) ∙ l.invariant.gives;
      later = λ j q. get_or-set_other l.w.values l.k j c.largest_on.result nan (λ e. omega arith) ∙ l.invariant.later j (omega arith);
    }

pub returns : goal.returns
returns c =
    let l = c.loop-k in
    let a = c.args in
    sym (channels_end (peaks a.stretch.now a.channels (length a.stretch.now / a.channels)) a.channels l.k l.w.values c.loop-k-test.false) ∙ l.invariant.gives
