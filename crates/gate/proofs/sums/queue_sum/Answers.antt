-- `sums::queue_sum` meets its contract: the energies held are two parts, one after the other, and so is what is seen of them. Assumes nothing.
use Rattle.std.proofs.Common.{sym, ◌∙◌}
use Rattle.gate.proofs.Looking.{older_unsound, both_seen}
use Rattle.gate.proofs.sums.queue_sum.Goals as goal

pub returns-in_err-sum : goal.returns-in_err-sum
returns-in_err-sum c =
    let a = c.args in
    let held = c.held_parts in
    rw c.from_residual.ensures
    (older_unsound a.energies.now a.start a.queue c.requires (sym c.suits.ensures ∙ c.if-not-suits.false) held.result.0.now held.result.1.now held.ensures.0 c.in_err-sum.ensures)

pub returns : goal.returns
returns c =
    let a = c.args in
    let held = c.held_parts in
    let older = c.in_ok-sum.ensures in
    both_seen a.energies.now a.start a.queue c.requires (sym c.suits.ensures ∙ c.if-not-suits.false) held.result.0.now held.result.1.now held.ensures.0
    older.0 c.in_ok-sum.sum older.1 c.add_sound-2.result c.add_sound-2.ensures
