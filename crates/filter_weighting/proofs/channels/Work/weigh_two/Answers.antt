-- `Work::weigh_two` meets its contract: the frames left of both channels give what all of them give; two frames a turn, and one more where their number is odd. Assumes nothing.
use Rattle.std.proofs.Common.{ℕ, ◌+◌, ◌-◌, ◌*◌, ◌/◌, ◌<◌, ◌≡◌, map, length, refl, ap, ◌∙◌, arith}
use lib.ListN.{length-map}
use Rattle.filter_weighting.specs.Inner.{place_of}
use Rattle.filter_weighting.proofs.Single.{reach_by}
use Rattle.filter_weighting.proofs.Pairs.{both_start, both_next, both_at, both_turn, both_twice, both_end}
use Rattle.filter_weighting.proofs.channels.Work.weigh_two.Given.{Over}
use Rattle.filter_weighting.proofs.channels.Work.weigh_two.Goals as goal
use Rattle.filter_weighting.proofs.channels.Work.weigh_two.Goals.{In-loop-turn}

pub loop-turn-init : goal.loop-turn-init
loop-turn-init g c =
    let a = c.args in
    let w = a.self in
    let f = g.S.Sample.in_f64 in
    (refl, both_start w.c.a w.c.b (map f a.samples.now) w.channels w.part a.p.one a.p.two a.k (place_of w a.k) w.frames a.dest.now _ _ _ (omega arith) (omega arith) (omega arith) (reach_by f a.samples.now c.requires.reach) c.requires.frames_le_part.0 c.requires.frames_le_part.1)

-- the second frame of a turn is there too
second : (g : Over) (c : In-loop-turn g) → c.args.k + c.loop-turn.turn * 2 * c.args.self.channels + c.args.self.channels + 1 < length c.args.samples.now
second g c =
    let t = both_next c.loop-turn.invariant.1 (omega arith) in
    omega (arith, t.0, length-map c.args.samples.now g.S.Sample.in_f64)

pub frame-w-requires-in-loop-turn-clause-i_in_bounds : goal.frame-w-requires-in-loop-turn-clause-i_in_bounds
frame-w-requires-in-loop-turn-clause-i_in_bounds g c = second g (goal.at.frame-w-requires-in-loop-turn-clause-i_in_bounds g c).In-loop-turn

pub loop-turn-preserved : goal.loop-turn-preserved
loop-turn-preserved g c =
    let l = c.loop-turn in
    let e = c.frame-w.ensures in
    let n = c.frame-w-in-loop-turn.ensures in (
      c.frame-w-in-loop-turn.auto.dest ∙ c.frame-w.auto.dest ∙ l.invariant.0,
      both_twice l.invariant.1 _ _ _ _ _ _ _ _ _ (omega arith) (omega arith) (omega arith) (omega arith) e.0.0 e.0.1 e.1 n.0.0 n.0.1 n.1,
    )

pub returns-then-last-self : goal.returns-then-last-self
returns-then-last-self g c =
    let a = c.args in
    let l = c.loop-turn in
    let last = a.self.frames / 2 in
    let i = a.k + last * 2 * a.self.channels in
    let j = a.k * a.self.part + a.self.place + last * 2 in
    let t : l.turn ≡ last = omega arith in
    let now = both_at l.invariant.1 i j (a.self.frames - last * 2) (ap (λ (n : ℕ). a.k + n * 2 * a.self.channels) t) (omega arith) (omega arith) in
    let e = c.frame-w-then-last-self.ensures in
    let r = both_end (both_turn now _ _ _ (omega arith) e.0.0 e.0.1 e.1) (omega arith) in
    record { fact = (r.0, r.1.0); dest_after = r.1.1 }

pub returns-else-last-self : goal.returns-else-last-self
returns-else-last-self g c =
    let r = both_end c.loop-turn.invariant.1 (omega arith) in
    record { fact = (r.0, r.1.0); dest_after = r.1.1 }
