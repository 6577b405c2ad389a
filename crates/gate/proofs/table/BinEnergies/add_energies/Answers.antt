-- `BinEnergies::add_energies` meets its contract. The invariant: the bins from here on, on top of the sum, give what all give. Assumes nothing.
use Rattle.std.proofs.Common.{ℕ, suc, ◌+◌, get_or, drop, pos, sym, ap, ◌∙◌, arith}
use Rattle.std.proofs.lemmas.List.{at_drop_more, at_drop_all}
use lib.Ieee.{Float, binary64, add, mul, of_int}
use Rattle.bins_tables.specs.Tables.{energy_at}
use Rattle.bins_tables.proofs.Taken.{energy_entry}
use Rattle.gate.specs.Inner.{sum_from}
use Rattle.gate.proofs.table.BinEnergies.add_energies.Goals as goal

pub loop-i-preserved : goal.loop-i-preserved
unfolding sum_from
loop-i-preserved c =
    let l = c.loop-i in
    let blocks = c.args.blocks.now in
    let bin = c.args.first + l.i in
    let plus : Float → Float = λ energy. add binary64 l.sum (mul binary64 (of_int binary64 (pos (get_or blocks l.i 0))) energy) in
    ap (λ (energy : Float). sum_from (plus energy) (c.args.first + (l.i + 1)) (drop (l.i + 1) blocks)) (energy_entry c.args.self.now.table bin c.args.self.now.taken)
    ∙ ap (λ (n : ℕ). sum_from (plus (energy_at bin)) n (drop (l.i + 1) blocks)) {x = c.args.first + (l.i + 1)} {y = suc bin} (omega arith)
    ∙ sym (at_drop_more (sum_from l.sum bin) blocks l.i 0 (omega arith))
    ∙ l.invariant

pub returns : goal.returns
unfolding sum_from
returns c =
    let l = c.loop-i in
    sym (at_drop_all (sum_from l.sum (c.args.first + l.i)) c.args.blocks.now l.i (omega arith)) ∙ l.invariant
