-- `true_peak::one_channel` meets its contract: the stretches that are left give what the whole call gives. Assumes nothing.
use mathlib.Core.List.{map}
use mathlib.Core.List.{List}
use mathlib.Core.Path.{ap, ◌∙◌}
use Prim.Native.Nat.{ℕ, ◌+◌, ◌*◌, ◌<◌, ◌≤◌}
use native.Mathlib.Omega.{arith}
use lib.ListN.{length}
use lib.Ieee.{Float}
use lib.Seq.{sets}
use Rattle.true_peak_state.specs.Channel.{Channel, channel, heard, past}
use Rattle.true_peak_scan.specs.Line.{back}
use Rattle.samples.specs.Frames.{column}
use Rattle.true_peak.proofs.Stretches.{stretches_turn, places}
use Rattle.true_peak.proofs.one_channel.Goals as goal

-- more than a stretch is left: a whole one is
whole : (left : ℕ) → 128 < left → 128 ≤ left
whole left h = omega arith

-- the next stretch begins at a sample
further : (first left step length : ℕ) → 128 < left → first + left * step < length + step → first + 128 * step < length
further first left step length h l = omega (arith, places 129 left step h)

pub loop-left-init : goal.loop-left-init
loop-left-init g c =
    let a = c.args in (
      omega (arith, c.requires),
      ap (λ (h : List Float). heard a.kernel.now.i (channel h a.peak) (column (map g.S.Sample.in_f32 a.samples.now) a.c a.channels a.frames)) c.recall.ensures,
    )

pub hear_stretch-loud-requires : goal.hear_stretch-loud-requires
hear_stretch-loud-requires g c =
    let l = c.loop-left in
    record {
      n_le_stretch = omega arith;
      channels_in_bounds = omega (arith, further l.first l.left c.args.channels (length c.args.samples.now) c.loop-left-test.true l.invariant.0);
    }

pub overflow_mul-first : goal.overflow_mul-first
overflow_mul-first g c = omega (arith, further c.loop-left.first c.loop-left.left c.args.channels (length c.args.samples.now) c.loop-left-test.true c.loop-left.invariant.0, c.well_formed)

pub overflow_add-first : goal.overflow_add-first
overflow_add-first g c = omega (arith, further c.loop-left.first c.loop-left.left c.args.channels (length c.args.samples.now) c.loop-left-test.true c.loop-left.invariant.0, c.well_formed)

pub loop-left-preserved : goal.loop-left-preserved
loop-left-preserved g c =
    let l = c.loop-left in
    let a = c.args in
    let t = whole l.left c.loop-left-test.true in
    let h = c.hear_stretch-loud in (
      omega (arith, places 128 l.left a.channels t, l.invariant.0),
      stretches_turn a.kernel.now.i (map g.S.Sample.in_f32 a.samples.now) l.first a.channels l.left 128 (channel (back l.line 0 past) l.loud) (channel (back h.new.line 0 past) h.result)
          t
          h.ensures
          ∙ l.invariant.1,
    )

pub hear_stretch-loud-requires-2 : goal.hear_stretch-loud-requires-2
hear_stretch-loud-requires-2 g c =
    let l = c.loop-left in
    record {
      n_le_stretch = omega (arith, c.loop-left-test.false);
      channels_in_bounds = l.invariant.0;
    }

pub returns : goal.returns
returns g c =
    let l = c.loop-left in
    let a = c.args in
    let e = c.hear_stretch-loud-2.ensures ∙ l.invariant.1 in
    (ap (λ (k : Channel). k.peak) e, c.keep.ensures ∙ ap (λ (k : Channel). sets a.memory.now (a.c * past) k.history) e)
