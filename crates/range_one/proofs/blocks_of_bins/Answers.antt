-- `range_one::blocks_of_bins` meets its contract. The invariant: the sum is that of the bins passed. Assumes nothing.
use Rattle.std.proofs.Common.{◌+◌, [], arith}
use Rattle.range_one.proofs.Counting.{counted_more, counted_part, blocks_none}
use Rattle.range_one.proofs.blocks_of_bins.Goals as goal

pub loop-count-init : goal.loop-count-init
loop-count-init g c = blocks_none []

pub overflow_add-blocks : goal.overflow_add-blocks
overflow_add-blocks g c =
    let n = c.loop-count.count-index in
    omega (arith, c.wide-blocks.ensures, c.requires, counted_more g.C.Counter.counted c.args.counters.now n c.count-item.result c.loop-count-test.true c.count-item.is, counted_part g.C.Counter.counted c.args.counters.now (n + 1))

pub loop-count-preserved : goal.loop-count-preserved
loop-count-preserved g c =
    let n = c.loop-count.count-index in
    omega (arith, c.wide-blocks.ensures, counted_more g.C.Counter.counted c.args.counters.now n c.count-item.result c.loop-count-test.true c.count-item.is)
