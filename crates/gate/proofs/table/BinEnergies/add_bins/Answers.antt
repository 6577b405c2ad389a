-- `BinEnergies::add_bins` meets its contract: bins without blocks leave the totals as they are, and else their count and their sum are added. Assumes nothing.
use Rattle.std.proofs.Common.{sym, ◌∙◌, arith}
use Rattle.gate.proofs.Looking.{same}
use Rattle.gate.proofs.Running.{bins_split}
use Rattle.gate.proofs.Stretches.{bins_empty}
use Rattle.gate.proofs.table.BinEnergies.add_bins.Goals as goal

pub returns-then-count-eq0 : goal.returns-then-count-eq0
returns-then-count-eq0 c =
    let a = c.args in
    (bins_empty a.totals a.first a.blocks.now c.requires.2 c.requires.0 (sym c.count_blocks-count.ensures.0 ∙ c.if-count-eq0.true), omega arith)

pub returns : goal.returns
returns c =
    let a = c.args in
    (same (omega (arith, c.count_blocks-count.ensures.0)) c.add_energies.ensures ∙ sym (bins_split a.totals.count a.totals.sum a.first a.blocks.now), omega (arith, c.count_blocks-count.ensures.1))
