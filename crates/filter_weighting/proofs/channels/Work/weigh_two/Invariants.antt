use Rattle.std.proofs.Common.{◌≡◌, ◌+◌, ◌-◌, ◌*◌, map, length}
use lib.Seq.{sets}
use Rattle.samples.specs.Frames.{column}
use Rattle.filter_recurrence.specs.Recurrence.{after, outs}
use Rattle.filter_weighting.proofs.Pairs.{Both}
use Rattle.filter_weighting.proofs.channels.Work.weigh_two.Given as goal

abbrev pub invariant-loop-turn : goal.invariant-loop-turn
invariant-loop-turn g l =
    let src = map g.S.Sample.in_f64 l.samples in
    let one = column src l.k l.step l.self.frames in
    let two = column src (l.k + 1) l.step l.self.frames in
    let done = l.turn * 2 in
    (length l.dest ≡ length l.initial.dest)
    × Both l.c.a l.c.b src l.step l.part
    (after l.c.a l.initial.w.one one)
    (after l.c.a l.initial.w.two two)
    (sets (sets l.initial.dest l.first (outs l.c.a l.c.b l.initial.w.one one)) (l.first + l.part) (outs l.c.a l.c.b l.initial.w.two two))
    l.w.one l.w.two (l.k + done * l.step) (l.first + done) (l.self.frames - done) l.dest
