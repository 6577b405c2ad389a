-- `range_one::of_counters` meets its contract: the totals of the histogram, the gate's bin, and the two ranks from there on. Assumes nothing.
use Rattle.std.proofs.Common.{◌≡◌, ℕ, ◌+◌, ◌-◌, ◌≤◌, List, length, map, take, drop, sym, ap, ◌∙◌, arith, rules}
use Rattle.std.proofs.lemmas.List.{map-id}
use lib.Ieee.{Float, binary64, mul}
use Rattle.base_refusals.specs.Outcome.{says}
use Rattle.bins.specs.Bin.{bins}
use Rattle.history_set.specs.Set.{counters_at}
use Rattle.history_set.proofs.Slices.{counters_slice}
use Rattle.gate.specs.declared.blocks.Totals.{Totals}
use Rattle.gate.specs.Totals.{none, mean_of, bins_from, from_bin}
use Rattle.gate.specs.Start.{start_bin}
use Rattle.gate.proofs.Running.{there}
use Rattle.range_ranks.specs.Span.{gate_energy, hundredth}
use Rattle.range_one.specs.Counted.{blocks_in, left_in}
use Rattle.range_one.proofs.Counting.{count_is}
use Rattle.range_one.proofs.Answers.{counted_some, span_there, span_none, blocks_there}
use Rattle.range_one.proofs.of_counters.Goals as goal

pub returns-then-started-eq0 : goal.returns-then-started-eq0
returns-then-started-eq0 c =
    ap says (sym (span_none c.args.counters.now c.args.start (ap (λ (totals : Totals). totals.count) (sym c.started-started.ensures.0) ∙ c.if-started-eq0.true)))

pub overflow_add-histogram : goal.overflow_add-histogram
overflow_add-histogram c =
    omega (arith, blocks_there c.args.counters.now c.args.start (λ z. c.if-started-eq0.false (ap (λ (totals : Totals). totals.count) c.started-started.ensures.0 ∙ z)))

pub offset_bounds-counters-start : goal.offset_bounds-counters-start
offset_bounds-counters-start c =
    search (rules, blocks_there c.args.counters.now c.args.start (λ z. c.if-started-eq0.false (ap (λ (totals : Totals). totals.count) c.started-started.ensures.0 ∙ z)))

pub slice_bounds-histogram-end : goal.slice_bounds-histogram-end
slice_bounds-histogram-end c =
    omega (arith, blocks_there c.args.counters.now c.args.start (λ z. c.if-started-eq0.false (ap (λ (totals : Totals). totals.count) c.started-started.ensures.0 ∙ z)))

-- the counters of the histogram, as they stand
as_they_stand : (counters : List ℕ) (start : ℕ) → map (λ (count : ℕ). count) (take (start + bins - start) (drop start counters)) ≡ counters_at counters start
as_they_stand counters start = map-id (take (start + bins - start) (drop start counters)) ∙ sym (counters_slice counters start)

totals_are : (counters : List ℕ) (start : ℕ) (totals : Totals) → totals ≡ from_bin none.sum counters start 0 → start + bins ≤ length counters
    → totals ≡ bins_from none 0 (counters_at counters start)
totals_are counters start totals e inside = e ∙ there none.sum counters start 0 inside

gate_is : (bin : ℕ) (share : Float) (totals : Totals) → bin ≡ start_bin (mul binary64 share (mean_of totals)) → share ≡ hundredth → bin ≡ start_bin (gate_energy totals)
gate_is bin share totals e h = e ∙ ap (λ (x : Float). start_bin (mul binary64 x (mean_of totals))) h

pub invariant_of-blocks : goal.invariant_of-blocks
invariant_of-blocks c =
    let counters = c.args.counters.now in
    let start = c.args.start in
    let totals = c.started-started.result.totals in
    let inside = blocks_there counters start (λ z. c.if-started-eq0.false (ap (λ (t : Totals). t.count) c.started-started.ensures.0 ∙ z)) in
    record {
      together =
          ap (λ (t : Totals). t.count) (totals_are counters start totals c.started-started.ensures.0 inside)
          ∙ count_is none 0 (counters_at counters start)
          ∙ omega (arith, ap blocks_in (as_they_stand counters start));
    }

pub returns : goal.returns
returns c =
    let counters = c.args.counters.now in
    let start = c.args.start in
    let part = counters_at counters start in
    let totals = c.started-started.result.totals in
    let bin = c.started-started.result.bin in
    let inside = blocks_there counters start (λ z. c.if-started-eq0.false (ap (λ (t : Totals). t.count) c.started-started.ensures.0 ∙ z)) in
    let gate = gate_is bin c.gate_share.result totals c.started-started.ensures.2 c.gate_share.ensures in
    c.ranked.ensures
    ∙ ap says (
    ap (λ (l : List ℕ). left_in l (blocks_in (take bin l)) (totals.count - blocks_in (take bin l))) (as_they_stand counters start)
    ∙ sym (counted_some part totals (blocks_in (take bin part)) (totals_are counters start totals c.started-started.ensures.0 inside) c.if-started-eq0.false (ap (λ (n : ℕ). blocks_in (take n part)) gate))
    ∙ sym (span_there counters start inside))
