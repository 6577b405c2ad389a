-- `range_one::blocks_of` meets its contract. The invariant: what is told is told of the counters passed. Assumes nothing.
use Rattle.std.proofs.Common.{[], arith}
use Rattle.range_one.proofs.Counting.{counted_more, blocks_none}
use Rattle.range_one.proofs.blocks_of.Goals as goal

pub loop-count-init : goal.loop-count-init
loop-count-init g c = omega (arith, blocks_none [])

pub loop-count-preserved : goal.loop-count-preserved
loop-count-preserved g c =
    let n = c.loop-count.count-index in
    omega (arith, counted_more g.C.Counter.counted c.args.counters.now n c.count-item.result c.loop-count-test.true c.count-item.is)
