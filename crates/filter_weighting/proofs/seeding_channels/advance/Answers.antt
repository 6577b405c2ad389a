-- `seeding_channels::advance` meets its contract: the samples left, from the memory as it is, give what all of them give. Assumes nothing.
use Rattle.std.proofs.Common.{◌≡◌, ◌+◌, ◌-◌, ◌*◌, length, refl, sym, ◌∙◌, arith}
use lib.Ieee.{nan}
use Rattle.samples.specs.Frames.{column}
use Rattle.samples.specs.Stretches.{Reach}
use Rattle.samples.proofs.Reaching.{reach_here, reach_rest}
use Rattle.filter_recurrence.specs.Recurrence.{after}
use Rattle.filter_recurrence.proofs.Moving.{turn_after, none_after}
use Rattle.filter_weighting.proofs.Single.{moved}
use Rattle.filter_weighting.proofs.seeding_channels.advance.Goals as goal

pub loop-frame-init : goal.loop-frame-init
loop-frame-init c =
    let a = c.args in
    let xs = a.run.now in
    let all = after a.a a.m (column xs a.k a.channels a.frames) in
    moved (λ i _ n. Reach i a.channels n (length xs) × (after a.a a.m (column xs i a.channels n) ≡ all)) a.k 0 a.frames _ 0 _ (omega arith) refl (omega arith) (c.requires, refl)

pub loop-frame-preserved : goal.loop-frame-preserved
loop-frame-preserved c =
    let a = c.args in
    let xs = a.run.now in
    let l = c.loop-frame in
    let i = a.k + l.frame * a.channels in
    let left = a.frames - l.frame in
    let all = after a.a a.m (column xs a.k a.channels a.frames) in
    let r = l.invariant.0 in
    moved (λ i _ n. Reach i a.channels n (length xs) × (after a.a c.shifted-w.result (column xs i a.channels n) ≡ all)) (i + a.channels) 0 (left - 1) _ 0 _ (omega arith) refl (omega arith) (
      reach_rest _ _ _ _ (omega arith) r,
      turn_after a.a a.a l.w xs i a.channels left (omega arith) (reach_here _ _ _ _ (omega arith) r) _ nan _ c.head.ensures c.shifted-w.ensures ∙ l.invariant.1,
    )

pub returns : goal.returns
returns c =
    let a = c.args in
    let l = c.loop-frame in
    sym (none_after a.a l.w a.run.now (a.k + l.frame * a.channels) a.channels (a.frames - l.frame) (omega arith)) ∙ l.invariant.1
