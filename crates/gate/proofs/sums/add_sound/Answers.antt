-- `sums::add_sound` meets its contract. The invariant: what was seen so far, with what the energies from here on give, is what all give. Assumes nothing.
use Rattle.std.proofs.Common.{◌+◌, Float, not, ◌&&◌, get_or, drop, sym, ap, ◌∙◌, arith}
use Rattle.std.specs.List.{fold}
use Rattle.std.proofs.lemmas.List.{at_drop_more, at_drop_all}
use lib.Ieee.{nan, binary64, add, lt}
use Rattle.history_set.specs.Set.{none_below}
use Rattle.history_set.proofs.Slices.{fine_turn, fine_end}
use Rattle.gate.proofs.sums.add_sound.Goals as goal

pub loop-energy-preserved : goal.loop-energy-preserved
loop-energy-preserved c =
    let energies = c.args.energies.now in
    let l = c.loop-energy in
    let i = l.energy-index in (
      ap (λ (least : Float). (l.sound && not (lt (get_or energies i nan) least)) && none_below (drop (i + 1) energies)) c.lowest_boundary-least.ensures
          ∙ fine_turn energies i l.sound nan (omega arith)
          ∙ l.invariant.0,
      sym (at_drop_more (fold (add binary64) l.sum) energies i nan (omega arith)) ∙ l.invariant.1,
    )

pub returns-then-sound : goal.returns-then-sound
returns-then-sound c =
    let energies = c.args.energies.now in
    let l = c.loop-energy in (
      sym l.invariant.0 ∙ fine_end energies l.energy-index l.sound (omega arith) ∙ c.if-sound.true,
      sym (at_drop_all (fold (add binary64) l.sum) energies l.energy-index (omega arith)) ∙ l.invariant.1,
    )

pub returns-else-sound : goal.returns-else-sound
returns-else-sound c =
    let l = c.loop-energy in
    sym l.invariant.0 ∙ fine_end c.args.energies.now l.energy-index l.sound (omega arith) ∙ c.if-sound.false
