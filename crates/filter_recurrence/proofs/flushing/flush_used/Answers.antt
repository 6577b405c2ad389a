-- `flushing::flush_used` meets its contract: the channels left, from the state as it is, give what all of them give. Assumes nothing.
use Rattle.std.proofs.Common.{ℕ, List, sym, ◌∙◌, arith}
use lib.Ieee.{Float}
use Rattle.filter_recurrence.specs.Recurrence.{flushed}
use Rattle.filter_recurrence.specs.Channels.{memory_of, with_memory}
use Rattle.filter_recurrence.proofs.Each.{each_again, each_end}
use Rattle.filter_recurrence.proofs.flushing.flush_used.Goals as goal

-- channel k's memory flushed in the state
abbrev flushes : ℕ → List Float → List Float
flushes k v = with_memory v k (flushed (memory_of v k))

pub loop-k-preserved : goal.loop-k-preserved
loop-k-preserved c =
    let l = c.loop-k in
    each_again flushes c.args.map.now l.k l.state _ c.loop-k-test.true c.flush_channel.ensures ∙ l.invariant

pub returns : goal.returns
returns c =
    let l = c.loop-k in
    sym (each_end flushes c.args.map.now l.k l.state (omega (arith, c.loop-k-test.false))) ∙ l.invariant
