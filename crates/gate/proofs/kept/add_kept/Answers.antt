-- `kept::add_kept` meets its contract: what is counted and what is summed, together. Assumes nothing.
use Rattle.std.proofs.Common.{sym, ◌∙◌}
use Rattle.gate.proofs.Looking.{same}
use Rattle.gate.proofs.Keeping.{together}
use Rattle.gate.proofs.kept.add_kept.Goals as goal

pub returns : goal.returns
returns c =
    let blocks = c.add_blocks.ensures in
    let a = c.args in
    (same blocks.0 c.add_energies.ensures ∙ sym (together a.threshold a.totals.count a.totals.sum a.energies.now), blocks.1)
