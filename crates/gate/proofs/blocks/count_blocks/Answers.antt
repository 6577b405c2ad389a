-- `blocks::count_blocks` meets its contract. The invariant: with the blocks of the bins from here on there are as many as all bins have. Assumes nothing.
use Rattle.std.proofs.Common.{◌≡◌, ◌+◌, get_or, drop, arith}
use Rattle.std.proofs.lemmas.List.{at_drop_more, at_drop_all}
use Rattle.gate.specs.Totals.{blocks_in}
use Rattle.gate.proofs.blocks.count_blocks.Goals as goal

pub loop-count-preserved : goal.loop-count-preserved
unfolding blocks_in
loop-count-preserved c =
    let blocks = c.args.blocks.now in
    let i = c.loop-count.count-index in
    let next : blocks_in (drop i blocks) ≡ get_or blocks i 0 + blocks_in (drop (i + 1) blocks) = at_drop_more blocks_in blocks i 0 (omega arith) in
    (omega (arith, c.type_inv.blocks i), omega (arith, next))

pub returns : goal.returns
unfolding blocks_in
returns c =
    let none : blocks_in (drop c.loop-count.count-index c.args.blocks.now) ≡ 0 = at_drop_all blocks_in c.args.blocks.now c.loop-count.count-index (omega arith) in
    (omega (arith, none), omega arith)
