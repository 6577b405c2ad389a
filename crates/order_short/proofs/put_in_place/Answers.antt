-- `order_short::put_in_place` meets its contract. The invariant: `fine` and what is left tell of the whole, and at the places of the first i energies
-- stands what the order has there (`Placed`), where all are above zero. Assumes nothing.
use mathlib.Core.Path.{sym, subst, ◌∙◌}
use Prim.Native.Nat.{ℕ, ◌+◌}
use native.Mathlib.Omega.{arith}
use lib.ListN.{set}
use Rattle.base_floats.specs.Entry.{at}
use Rattle.order_rules.proofs.AllAbove.{above_all, fine_on, fine_end}
use Rattle.order_rules.proofs.InOrder.{energies}
use Rattle.order_short.proofs.Ranking.{Placed, placed_on, all_placed, place_inside}
use Rattle.order_short.proofs.put_in_place.Goals as goal

pub offset_bounds-places-place_of : goal.offset_bounds-places-place_of
offset_bounds-places-place_of c = omega (arith, c.place_of.ensures, place_inside c.args.part.now c.loop-i.i c.loop-i-test.true)

pub bounds-places-place_of : goal.bounds-places-place_of
bounds-places-place_of c = omega (arith, c.place_of.ensures, place_inside c.args.part.now c.loop-i.i c.loop-i-test.true)

pub loop-i-preserved : goal.loop-i-preserved
loop-i-preserved c =
    let l = c.args.part.now in
    let head = c.loop-i in
    let more = c.loop-i-test.true in (
      fine_on head.fine l head.i more ∙ head.invariant.0,
      λ a.
          let on = placed_on l a head.i head.places (omega arith) (head.invariant.1 a) more in
          subst (λ (r : ℕ). Placed (head.i + 1) l (set head.places r (at l head.i))) (sym c.place_of.ensures) on,
    )

pub returns : goal.returns
returns c =
    let l = c.args.part.now in
    let head = c.loop-i in
    record {
      value = sym (fine_end head.fine l head.i c.loop-i-test.false) ∙ head.invariant.0;
      places_after = λ e.
          let a = energies l (above_all l e) c.type_inv.part in
          all_placed l a head.i head.places (omega arith) (head.invariant.1 a) c.loop-i-test.false;
    }
