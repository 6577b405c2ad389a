-- `range_one::Bins::blocks` meets its contract: none of the bins has too many. Assumes nothing.
use Rattle.std.proofs.Common.{map, arith}
use Rattle.std.proofs.lemmas.List.{length-map}
use Rattle.range_one.specs.Counted.{most_in_bin}
use Rattle.range_one.proofs.Counting.{blocks_all}
use Rattle.range_one.proofs.Bins.blocks.Goals as goal

pub blocks_of_bins-requires : goal.blocks_of_bins-requires
blocks_of_bins-requires g c =
    let l = c.args.self.now in
    omega (arith, blocks_all most_in_bin (map g.C.Counter.counted l.counters.now) l.few, length-map l.counters.now g.C.Counter.counted, l.all)
