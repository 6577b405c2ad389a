-- `exports_gate::xel_gate` meets its contract: each case of the answer is told as the C interface tells it. Assumes nothing.
use Rattle.std.proofs.Common.{Ok, Err, ap, ◌∙◌}
use Rattle.base_refusals.specs.Refusal.{number}
use Rattle.base_refusals.proofs.Told.{values_told, refusal_told}
use Rattle.gate.specs.declared.blocks.Totals.{Totals}
use Rattle.gate.specs.Gate.{gate_of}
use Rattle.exports_entries.specs.Sets.{asked}
use Rattle.exports_entries.proofs.Asked.{asked_told}
use Rattle.exports_gate.specs.Measures.{totals_over}
use Rattle.exports_gate.proofs.Sets.{gate_of_set}
use Rattle.exports_gate.proofs.xel_gate.Goals as goal

pub returns-in-Ok : goal.returns-in-Ok
returns-in-Ok c =
    let a = c.args in
    let told =
    values_told (asked gate_of a.entries.now a.counters.now a.energies.now) (totals_over a.blocks.now a.sum.now) c.in-Ok.above
    (asked_told gate_of gate_of_set a.entries.now a.counters.now a.energies.now (Ok c.in-Ok.above) c.in-Ok.ensures.whole c.in-Ok.ensures.part) in
    (told.0, ap (λ (t : Totals). t.count) told.1, ap (λ (t : Totals). t.sum) told.1)

pub returns-in-Err : goal.returns-in-Err
returns-in-Err c =
    let a = c.args in
    let told =
    refusal_told (asked gate_of a.entries.now a.counters.now a.energies.now) (totals_over a.blocks.now a.sum.now) (number c.in-Err.refusal)
    (asked_told gate_of gate_of_set a.entries.now a.counters.now a.energies.now (Err c.in-Err.refusal) c.in-Err.ensures.whole c.in-Err.ensures.part) in
    (c.from.ensures ∙ told.0, ap (λ (t : Totals). t.count) told.1, ap (λ (t : Totals). t.sum) told.1)
