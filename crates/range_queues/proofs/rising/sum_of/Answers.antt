-- `rising::sum_of` meets its contract. The invariant: the energies from here on, on top of what was added, give what all give. Assumes nothing.
use Rattle.std.proofs.Common.{sym, ap, ◌∙◌, arith}
use lib.Ieee.{nan}
use Rattle.gate.specs.declared.blocks.Totals.{Totals}
use Rattle.gate.proofs.Running.{energies_turn, energies_end}
use Rattle.range_queues.proofs.rising.sum_of.Goals as goal

pub loop-energy-preserved : goal.loop-energy-preserved
loop-energy-preserved c =
    let l = c.loop-energy in
    energies_turn c.args.rising.now (record { count = l.energy-index; sum = l.sum }) l.energy-index nan (omega arith) ∙ l.invariant

pub returns : goal.returns
returns c =
    let l = c.loop-energy in
    ap (λ (t : Totals). t.sum) (sym (energies_end c.args.rising.now (record { count = l.energy-index; sum = l.sum }) l.energy-index (omega arith)) ∙ l.invariant)
