use Rattle.std.proofs.Common.{◌≡◌, map, drop}
use Rattle.range_one.specs.Counted.{Short}
use Rattle.range_one.proofs.Bins.pass_by.Given as goal

abbrev pub invariant-loop-group : goal.invariant-loop-group
invariant-loop-group g l = record {
  left : drop l.near.bin l.self.counters.now ≡ l.group-iterator.rest.now;
  short : Short (map g.C.Counter.counted l.self.counters.now) l.rank l.near;
}
