-- `range_queues::look_at` meets its contract. The invariant: what was seen so far, and then of the energies from here on, is what is seen of all.
-- Assumes nothing.
use Rattle.std.proofs.Common.{◌+◌, not, ◌&&◌, get_or, drop, Float, sym, ap, refl, ◌∙◌, arith}
use lib.Ieee.{nan, lt}
use Rattle.history_set.specs.Set.{none_below}
use Rattle.history_set.proofs.Slices.{fine_turn, fine_end}
use Rattle.range_queues.proofs.Looking.{nan_turn, nan_end, seen_is, look_passed, look_failed}
use Rattle.range_queues.proofs.look_at.Goals as goal

pub loop-energy-preserved : goal.loop-energy-preserved
loop-energy-preserved c =
    let energies = c.args.energies.now in
    let l = c.loop-energy in
    let i = l.energy-index in (
      ap (λ (least : Float). (l.fine && not (lt (get_or energies i nan) least)) && none_below (drop (i + 1) energies)) c.lowest_boundary-least.ensures
          ∙ fine_turn energies i l.fine nan (omega arith)
          ∙ l.invariant.0,
      nan_turn energies i l.nan nan (omega arith) ∙ l.invariant.1,
    )

pub returns-then-fine : goal.returns-then-fine
returns-then-fine c =
    let energies = c.args.energies.now in
    let l = c.loop-energy in
    look_passed (none_below energies) _ _ (sym l.invariant.0 ∙ fine_end energies l.energy-index l.fine (omega arith) ∙ c.if-fine.true)
    (seen_is c.args.before energies _ _ refl (sym (nan_end energies l.energy-index l.nan (omega arith)) ∙ l.invariant.1))

pub returns-else-fine : goal.returns-else-fine
returns-else-fine c =
    let energies = c.args.energies.now in
    let l = c.loop-energy in
    look_failed (none_below energies) _ (sym l.invariant.0 ∙ fine_end energies l.energy-index l.fine (omega arith) ∙ c.if-fine.false)
