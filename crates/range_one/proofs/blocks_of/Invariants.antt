use Rattle.std.proofs.Common.{◌≡◌, ◌-◌, ◌^◌, map, min, take}
use Rattle.range_one.specs.Counted.{blocks_in}
use Rattle.range_one.proofs.blocks_of.Given as goal

abbrev pub invariant-loop-count : goal.invariant-loop-count
invariant-loop-count g l = l.told ≡ min (blocks_in (map g.C.Counter.counted (take l.count-index l.counters))) (2 ^ 64 - 1)
