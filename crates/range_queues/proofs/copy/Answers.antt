-- `range_queues::copy` meets its contract. The invariant: the energies from `i` on, stored from their place on, give what all of them give. Assumes nothing.
use Rattle.std.proofs.Common.{◌≡◌, ℕ, suc, ◌+◌, ◌<◌, List, Float, length, get_or, drop, set, sym, ap, ◌∙◌, arith, length-set, drop-cons, drop_of_length-le}
use lib.Ieee.{nan}
use lib.Seq.{sets}
use Rattle.range_queues.proofs.copy.Goals as goal

-- the energy at a place is stored, and then those after it
turn : (work l : List Float) (place i : ℕ) (d : Float) → i < length l
    → sets (set work place (get_or l i d)) (place + 1) (drop (i + 1) l) ≡ sets work place (drop i l)
turn work l place i d h =
    ap (λ (n : ℕ). sets (set work place (get_or l i d)) n (drop (i + 1) l)) {x = place + 1} {y = suc place} (omega arith)
    ∙ ap (λ (n : ℕ). sets (set work place (get_or l i d)) (suc place) (drop n l)) {x = i + 1} {y = suc i} (omega arith)
    ∙ sym (ap (sets work place) (drop-cons l i d h))

pub loop-i-preserved : goal.loop-i-preserved
loop-i-preserved c =
    let l = c.loop-i in
    let energies = c.args.energies.now in (
      length-set l.work (c.args.at + l.i) (get_or energies l.i nan) ∙ l.invariant.0,
      ap (λ (n : ℕ). sets (set l.work (c.args.at + l.i) (get_or energies l.i nan)) n (drop (l.i + 1) energies)) {x = c.args.at + (l.i + 1)} {y = c.args.at + l.i + 1} (omega arith)
          ∙ turn l.work energies (c.args.at + l.i) l.i nan (omega arith)
          ∙ l.invariant.1,
    )

pub returns : goal.returns
returns c =
    let l = c.loop-i in
    sym (ap (sets l.work (c.args.at + l.i)) (drop_of_length-le c.args.energies.now (omega arith))) ∙ l.invariant.1
