-- `Work::weigh` meets its contract: the frames left give what all of them give; two frames a turn, and one more where their number is odd. Assumes nothing.
use Rattle.std.proofs.Common.{◌≡◌, ℕ, ◌+◌, ◌-◌, ◌*◌, ◌/◌, ◌<◌, map, length, get_or, set, refl, ap, ◌∙◌, arith, rules}
use lib.ListN.{length-map}
use lib.Ieee.{Float, nan}
use Rattle.samples.proofs.Columns.{read_as}
use Rattle.filter_recurrence.specs.Recurrence.{next, out}
use Rattle.filter_weighting.specs.Inner.{place_of}
use Rattle.filter_weighting.proofs.Single.{start, reach_by, turn, here, following, at, twice, end}
use Rattle.filter_weighting.proofs.channels.Work.weigh.Given.{Over}
use Rattle.filter_weighting.proofs.channels.Work.weigh.Goals as goal
use Rattle.filter_weighting.proofs.channels.Work.weigh.Goals.{In-loop-turn}

pub loop-turn-init : goal.loop-turn-init
loop-turn-init g c =
    let a = c.args in
    let w = a.self in
    let f = g.S.Sample.in_f64 in
    (refl, start w.c.a w.c.b (map f a.samples.now) w.channels a.m a.k (place_of w a.k) w.frames a.dest.now _ _ _ (omega arith) (omega arith) (omega arith) (reach_by f a.samples.now c.requires.reach) c.requires.frames_in_bounds)

-- the second sample of a turn is there too
second : (g : Over) (c : In-loop-turn g) → c.args.k + c.loop-turn.turn * 2 * c.args.self.channels + c.args.self.channels < length c.args.samples.now
second g c =
    let t = following c.loop-turn.invariant.1 (omega arith) in
    omega (arith, t.0, length-map c.args.samples.now g.S.Sample.in_f64)

pub overflow_add-i-in-loop-turn : goal.overflow_add-i-in-loop-turn
overflow_add-i-in-loop-turn g c = let h = second g (goal.at.overflow_add-i-in-loop-turn g c).In-loop-turn in search rules

pub offset_bounds-samples-i-in-loop-turn : goal.offset_bounds-samples-i-in-loop-turn
offset_bounds-samples-i-in-loop-turn g c = omega (arith, second g (goal.at.offset_bounds-samples-i-in-loop-turn g c).In-loop-turn)

pub bounds-samples-i-in-loop-turn : goal.bounds-samples-i-in-loop-turn
bounds-samples-i-in-loop-turn g c = second g (goal.at.bounds-samples-i-in-loop-turn g c).In-loop-turn

pub loop-turn-preserved : goal.loop-turn-preserved
loop-turn-preserved g c =
    let a = c.args in
    let w = a.self.c in
    let f = g.S.Sample.in_f64 in
    let l = c.loop-turn in
    let i = a.k + l.turn * 2 * a.self.channels in
    let j = a.k * a.self.part + a.self.place + l.turn * 2 in
    let h = second g (goal.at.loop-turn-preserved g c).In-loop-turn in
    let src = map f a.samples.now in
    let x : c.to_f64-x.result ≡ get_or src i nan = c.to_f64-x.ensures ∙ read_as f a.samples.now i _ nan (omega (arith, h)) c.index-samples-i.is in
    let y : c.to_f64-y.result ≡ get_or src (i + a.self.channels) nan = c.to_f64-y.ensures ∙ read_as f a.samples.now (i + a.self.channels) _ nan h c.index-samples-i-in-loop-turn.is in
    let e = c.frame-w.ensures in
    let n = c.frame-w-in-loop-turn.ensures in (
      c.frame-w-in-loop-turn.auto.dest ∙ c.frame-w.auto.dest ∙ l.invariant.0,
      twice l.invariant.1 c.frame-w.result c.frame-w-in-loop-turn.result _ _ _ _ _ (omega arith) (omega arith) (omega arith) (omega arith)
          (e.value ∙ ap (next w.a l.w) x)
          (e.dest_after ∙ ap (λ (v : Float). set l.dest j (out w.a w.b l.w v)) x)
          (n.value ∙ ap (next w.a c.frame-w.result) y)
          (n.dest_after ∙ ap (λ (v : Float). set c.frame-w.new.dest (j + 1) (out w.a w.b c.frame-w.result v)) y),
    )

pub returns-then-last-self : goal.returns-then-last-self
returns-then-last-self g c =
    let a = c.args in
    let w = a.self.c in
    let f = g.S.Sample.in_f64 in
    let l = c.loop-turn in
    let last = a.self.frames / 2 in
    let i = a.k + last * 2 * a.self.channels in
    let j = a.k * a.self.part + a.self.place + last * 2 in
    let src = map f a.samples.now in
    let t : l.turn ≡ last = omega arith in
    let now = at l.invariant.1 i j (a.self.frames - last * 2) (ap (λ (n : ℕ). a.k + n * 2 * a.self.channels) t) (omega arith) (omega arith) in
    let h = here now (omega arith) in
    let x : c.to_f64-x-then-last-self.result ≡ get_or src i nan =
    c.to_f64-x-then-last-self.ensures ∙ read_as f a.samples.now i _ nan (omega (arith, h.0, length-map a.samples.now f)) c.index-samples-k.is in
    let e = c.frame-w-then-last-self.ensures in
    let r = end
    (turn now c.frame-w-then-last-self.result _ (omega arith)
    (e.value ∙ ap (next w.a l.w) x)
    (e.dest_after ∙ ap (λ (v : Float). set l.dest j (out w.a w.b l.w v)) x))
    (omega arith) in
    record { value = r.0; dest_after = r.1 }

pub returns-else-last-self : goal.returns-else-last-self
returns-else-last-self g c =
    let l = c.loop-turn in
    let r = end l.invariant.1 (omega arith) in
    record { value = r.0; dest_after = r.1 }
