-- `BinEnergies::start` meets its contract: the energies rise, so those below the threshold come first. Assumes nothing.
use Rattle.std.proofs.Common.{Float, rules}
use Rattle.std.proofs.lemmas.List.Sorted.{IsPartitionPoint-from_clause}
use lib.Ieee.{lt}
use Rattle.gate.proofs.Start.{split_below, start_split}
use Rattle.gate.proofs.table.BinEnergies.start.Goals as goal

pub returns : goal.returns
returns c =
    let table = c.args.self.now.table in
    let t = c.args.threshold in
    let taken = c.args.self.now.taken in
    start_split t table taken c.partition_point.result c.partition_point.ensures.bound
    (IsPartitionPoint-from_clause (λ (x : Float). lt x t) table c.partition_point.result c.partition_point.ensures.partitioned (split_below t table taken) (λ a r f k. search rules))
