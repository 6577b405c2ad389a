use Rattle.std.proofs.Common.{◌≡◌, ◌≤◌, map, take}
use Rattle.range_one.specs.Counted.{blocks_in}
use Rattle.range_one.proofs.Bins.first_past.Given as goal

abbrev pub invariant-loop-bin : goal.invariant-loop-bin
invariant-loop-bin g l = record {
  known : l.before ≡ blocks_in (take l.bin (map g.C.Counter.counted l.self.counters.now));
  few : l.before ≤ l.rank;
}
