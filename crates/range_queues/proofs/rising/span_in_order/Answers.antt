-- `rising::span_in_order` meets its contract: what is left at the gate, and the energies at its two ranks. Assumes nothing.
use mathlib.Core.Path.{◌≡◌, refl, sym, ap, ◌∙◌}
use Prim.Native.Nat.{◌-◌}
use native.Mathlib.Omega.{arith}
use borrow.Author.Rules.{rules}
use lib.Ieee.{Float, lt}
use lib.ListN.{length, drop, length-drop}
use Rattle.std.proofs.lemmas.List.Sorted.{IsPartitionPoint-from_clause}
use Rattle.base_refusals.specs.Outcome.{says}
use Rattle.gate.specs.Totals.{none, energies_from}
use Rattle.range_ranks.specs.Span.{gate_energy}
use Rattle.range_queues.specs.Rising.{from_gate, at_ranks}
use Rattle.range_queues.proofs.Skipping.{below_first, left_from, ranks_none, span_found, gate_of_lem}
use Rattle.range_queues.proofs.rising.span_in_order.Goals as goal
use Rattle.range_queues.proofs.rising.span_in_order.Goals.{After-partition_point-first}

gated : (k : After-partition_point-first)
    → drop k.partition_point-first.result k.args.rising.now ≡ from_gate (gate_energy (energies_from none k.args.rising.now)) k.args.rising.now
gated k =
    let rising = k.args.rising.now in
    let gate = k.gate_energy-gate.result in
    let first = k.partition_point-first.result in
    left_from gate rising first
    (IsPartitionPoint-from_clause (λ x. lt x gate) rising first k.partition_point-first.ensures.partitioned (below_first gate rising k.requires) (λ a r f q. search rules))
    ∙ ap (λ (g : Float). from_gate g rising) (k.gate_energy-gate.ensures ∙ gate_of_lem rising (length rising) k.sum_of.result refl k.sum_of.ensures)

pub returns-then-left-eq0 : goal.returns-then-left-eq0
returns-then-left-eq0 c =
    let left = drop c.partition_point-first.result c.args.rising.now in
    ap says
    (sym (ap at_ranks (sym (gated (goal.at.returns-then-left-eq0 c).After-partition_point-first))
    ∙ ranks_none left (omega (arith, length-drop c.partition_point-first.result c.args.rising.now))))

pub returns : goal.returns
returns c =
    let rising = c.args.rising.now in
    let first = c.partition_point-first.result in
    let left = length-drop first rising in
    ap says
    (span_found rising first (length rising - first - 1) c.low_rank.result c.high_rank.result
    (omega (arith, left)) (λ (z : length (drop first rising) ≡ 0). c.if-left-eq0.false (omega (arith, left))) c.low_rank.ensures c.high_rank.ensures
    ∙ ap at_ranks (gated (goal.at.returns c).After-partition_point-first))
