use Rattle.std.proofs.Common.{◌≡◌, ◌-◌, ◌≤◌, map, length, drop}
use Rattle.filter_recurrence.specs.Channels.{each_used}
use Rattle.filter_weighting.specs.Inner.{kept_of, weigh_one}
use Rattle.filter_weighting.proofs.channels.Work.weigh_all.Given as goal

abbrev pub invariant-loop-k : goal.invariant-loop-k
invariant-loop-k g l =
    let step = weigh_one l.self (map g.S.Sample.in_f64 l.samples) in
    (l.k ≤ l.self.channels)
    × ((length l.dest ≡ length l.initial.dest)
    × (each_used step (drop l.k l.bytes) l.k (kept_of l.state l.dest) ≡ each_used step l.bytes 0 (kept_of l.initial.state l.initial.dest)))

abbrev pub decreases-loop-k : goal.decreases-loop-k
decreases-loop-k g l = l.self.channels - l.k
