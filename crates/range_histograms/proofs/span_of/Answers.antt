-- `range_histograms::span_of` meets its contract: the totals, the gate's bin, and the two ranks from there on. Assumes nothing.
use Rattle.std.proofs.Common.{ℕ, ◌-◌, List, take, sym, ap, ◌∙◌, arith}
use Rattle.base_refusals.specs.Outcome.{says}
use Rattle.gate.specs.declared.blocks.Totals.{Totals}
use Rattle.gate.specs.Totals.{none}
use Rattle.gate.specs.Start.{start_bin}
use Rattle.range_histograms.specs.Counted.{blocks_in, left_in}
use Rattle.range_histograms.proofs.Counting.{count_is, as_they_are}
use Rattle.range_histograms.proofs.Answers.{counted_none, counted_some}
use Rattle.range_histograms.proofs.span_of.Goals as goal

pub returns-then-totals-eq0 : goal.returns-then-totals-eq0
returns-then-totals-eq0 c =
    ap says (sym (counted_none c.args.added.counters.now (ap (λ (totals : Totals). totals.count) (sym c.sum_up-totals.ensures) ∙ c.if-totals-eq0.true)))

pub invariant_of-blocks : goal.invariant_of-blocks
invariant_of-blocks c =
    let l = c.args.added.counters.now in
    record { together = ap (λ (totals : Totals). totals.count) c.sum_up-totals.ensures ∙ omega (arith, count_is none 0 l, ap blocks_in (as_they_are l)) }

pub returns : goal.returns
returns c =
    let l = c.args.added.counters.now in
    let totals = c.sum_up-totals.result in
    let start = c.start_bin-start.result in
    c.ranked.ensures
    ∙ ap says (
    ap (λ (k : List ℕ). left_in k (blocks_in (take start k)) (totals.count - blocks_in (take start k))) (as_they_are l)
    ∙ sym (counted_some l totals (blocks_in (take start l)) c.sum_up-totals.ensures c.if-totals-eq0.false
    (ap (λ (n : ℕ). blocks_in (take n l)) (c.start_bin-start.ensures ∙ ap start_bin c.gate_energy.ensures))))
