-- `seeding_channels::advance_run` meets its contract: the channels left, from the state as it is, give what all of them give. Assumes nothing.
use Rattle.std.proofs.Common.{ℕ, List, length, sym, ◌∙◌, arith, div-add-mod'}
use lib.Ieee.{Float}
use Rattle.filter_recurrence.specs.Channels.{memory_of, with_memory}
use Rattle.samples.proofs.Reaching.{reach_start}
use Rattle.filter_recurrence.proofs.Each.{each_again, each_end}
use Rattle.filter_recurrence.proofs.Runs.{hears}
use Rattle.filter_weighting.proofs.seeding_channels.advance_run.Goals as goal

-- channel k's memory after its frames, in the state
abbrev moves : List Float → List Float → ℕ → ℕ → List Float → List Float
moves a run channels k v = with_memory v k (hears a channels run k (memory_of v k))

pub advance_channel-requires : goal.advance_channel-requires
advance_channel-requires c =
    let a = c.args in
    reach_start _ _ _ _ (omega arith) c.requires.few (omega (arith, div-add-mod' (length a.run.now) (length a.bytes.now)))

pub loop-k-preserved : goal.loop-k-preserved
loop-k-preserved c =
    let l = c.loop-k in
    let a = c.args in
    each_again (moves a.a a.run.now (length a.bytes.now)) a.bytes.now l.k l.state _ c.loop-k-test.true c.advance_channel.ensures ∙ l.invariant

pub returns : goal.returns
returns c =
    let l = c.loop-k in
    let a = c.args in
    sym (each_end (moves a.a a.run.now (length a.bytes.now)) a.bytes.now l.k l.state (omega (arith, c.loop-k-test.false))) ∙ l.invariant
