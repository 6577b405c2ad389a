-- `range_histograms::sum_up` meets its contract. The invariant: the bins from `bin` on, on top of what was counted, give what all give. Assumes nothing.
use Rattle.std.proofs.Common.{◌+◌, get_or, drop, pos, refl, sym, ap, ◌∙◌, arith}
use lib.Ieee.{Float, nan, binary64, add, mul, of_int}
use Rattle.bins_tables.proofs.Taken.{energy_entry}
use Rattle.gate.specs.declared.blocks.Totals.{Totals}
use Rattle.gate.specs.Totals.{bins_from}
use Rattle.gate.proofs.Running.{bins_turn, bins_end}
use Rattle.range_histograms.proofs.Counting.{most_at}
use Rattle.range_histograms.proofs.sum_up.Goals as goal

pub loop-bin-init : goal.loop-bin-init
loop-bin-init c = record { few = omega arith; same = refl }

pub float-requires : goal.float-requires
float-requires c = most_at c.args.added.now.counters.now c.args.added.now.few c.loop-bin.bin

pub overflow_add-count : goal.overflow_add-count
overflow_add-count c = omega (arith, most_at c.args.added.now.counters.now c.args.added.now.few c.loop-bin.bin)

pub loop-bin-preserved : goal.loop-bin-preserved
loop-bin-preserved c =
    let counters = c.args.added.now.counters.now in
    let taken = c.all_energies-energies in
    let bin = c.loop-bin.bin in
    let blocks = get_or counters bin 0 in
    let next : Float → Totals = λ (x : Float). bins_from (record { count = c.loop-bin.count + blocks; sum = add binary64 c.loop-bin.sum x }) (bin + 1) (drop (bin + 1) counters) in record {
      few = omega (arith, most_at counters c.args.added.now.few bin);
      same =
          ap (λ (x : Float). next (mul binary64 x (get_or taken.result bin nan))) c.float.ensures
          ∙ ap (λ (x : Float). next (mul binary64 (of_int binary64 (pos blocks)) x)) (energy_entry taken.result bin taken.ensures)
          ∙ bins_turn counters (record { count = c.loop-bin.count; sum = c.loop-bin.sum }) bin (omega arith)
          ∙ c.loop-bin.invariant.same;
    }

pub returns : goal.returns
returns c =
    sym (bins_end c.args.added.now.counters.now (record { count = c.loop-bin.count; sum = c.loop-bin.sum }) c.loop-bin.bin (omega arith)) ∙ c.loop-bin.invariant.same
