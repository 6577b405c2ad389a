-- `BinEnergies::add_counters` meets its contract. The invariant: the stretches from here on, on top of the totals, give what all bins from `start` on give.
-- Assumes nothing.
use Rattle.std.proofs.Common.{ℕ, ◌+◌, ◌-◌, ◌*◌, ◌/◌, take, drop, sym, ap, ◌∙◌, subst, arith}
use Rattle.std.proofs.lemmas.List.{length-take}
use Rattle.gate.specs.declared.blocks.Totals.{Totals}
use Rattle.gate.specs.Totals.{on_top_of}
use Rattle.gate.specs.Inner.{stretch, onwards, Steady}
use Rattle.gate.proofs.Nothing.{bins_steady}
use Rattle.gate.proofs.Running.{bins_end}
use Rattle.gate.proofs.Stretches.{bins_up_to}
use Rattle.gate.proofs.table.BinEnergies.add_counters.Goals as goal

pub returns-then-start-ge-BINS : goal.returns-then-start-ge-BINS
returns-then-start-ge-BINS c = let a = c.args in (sym (bins_end a.counters.now (on_top_of a.sum) a.start (omega arith)), omega arith)

pub loop-i-init : goal.loop-i-init
loop-i-init c =
    let start = c.args.start in
    let counters = c.args.counters.now in
    let next = start / stretch + 1 in
    let e = c.add_bins-totals.ensures in
    let rest = take (next * stretch - start) (drop start counters) in (
      omega (arith, e.1, length-take (next * stretch - start) (drop start counters)),
      subst (λ (t : Totals). Steady t.sum) (sym e.0) (bins_steady (on_top_of c.args.sum) start rest c.requires.1),
      ap (λ (t : Totals). onwards t (next * stretch) counters) e.0 ∙ bins_up_to counters (on_top_of c.args.sum) start (next * stretch) (omega arith) (omega arith),
    )

pub loop-i-preserved : goal.loop-i-preserved
loop-i-preserved c =
    let l = c.loop-i in
    let counters = c.args.counters.now in
    let first = l.i * stretch in
    let e = c.add_bins-totals-in-loop-i.ensures in
    let row = take (first + stretch - first) (drop first counters) in (
      omega (arith, e.1, length-take (first + stretch - first) (drop first counters)),
      subst (λ (t : Totals). Steady t.sum) (sym e.0) (bins_steady l.totals first row l.invariant.1),
      ap (λ (n : ℕ). onwards c.add_bins-totals-in-loop-i.result n counters) {x = (l.i + 1) * stretch} {y = first + stretch} (omega arith)
          ∙ ap (λ (t : Totals). onwards t (first + stretch) counters) e.0
          ∙ bins_up_to counters l.totals first (first + stretch) (omega arith) (omega arith)
          ∙ l.invariant.2,
    )

pub returns : goal.returns
returns c =
    let l = c.loop-i in
    (sym (bins_end c.args.counters.now l.totals (l.i * stretch) (omega arith)) ∙ l.invariant.2, omega (arith, l.invariant.0))
