use Rattle.std.proofs.Common.{◌≡◌, ◌+◌, ◌-◌, ◌*◌, map, length}
use lib.Seq.{sets}
use Rattle.samples.specs.Frames.{column}
use Rattle.filter_recurrence.specs.Recurrence.{after, outs}
use Rattle.filter_weighting.proofs.Single.{Single}
use Rattle.filter_weighting.proofs.channels.Work.weigh.Given as goal

abbrev pub invariant-loop-turn : goal.invariant-loop-turn
invariant-loop-turn g l =
    let heard = column (map g.S.Sample.in_f64 l.samples) l.k l.step l.self.frames in
    let done = l.turn * 2 in
    (length l.dest ≡ length l.initial.dest)
    × Single l.c.a l.c.b (map g.S.Sample.in_f64 l.samples) l.step
    (after l.c.a l.initial.w heard)
    (sets l.initial.dest l.first (outs l.c.a l.c.b l.initial.w heard))
    l.w (l.k + done * l.step) (l.first + done) (l.self.frames - done) l.dest
