-- `exports_gate::xel_gated_energy` meets its contract: each case of the answer is told as the C interface tells it. Assumes nothing.
use Rattle.std.proofs.Common.{Ok, Err, ◌∙◌}
use Rattle.base_refusals.specs.Refusal.{number}
use Rattle.base_refusals.proofs.Told.{values_told, refusal_told}
use Rattle.gate.specs.GatedEnergy.{gated_energy_of}
use Rattle.exports_entries.specs.Sets.{asked}
use Rattle.exports_entries.proofs.Asked.{asked_told}
use Rattle.exports_gate.proofs.Sets.{energy_of_set}
use Rattle.exports_gate.proofs.xel_gated_energy.Goals as goal

pub returns-in-Ok : goal.returns-in-Ok
returns-in-Ok c =
    let a = c.args in
    values_told (asked gated_energy_of a.entries.now a.counters.now a.energies.now) a.energy.now c.in-Ok.mean
    (asked_told gated_energy_of energy_of_set a.entries.now a.counters.now a.energies.now (Ok c.in-Ok.mean) c.in-Ok.ensures.whole c.in-Ok.ensures.part)

pub returns-in-Err : goal.returns-in-Err
returns-in-Err c =
    let a = c.args in
    let told =
    refusal_told (asked gated_energy_of a.entries.now a.counters.now a.energies.now) a.energy.now (number c.in-Err.refused)
    (asked_told gated_energy_of energy_of_set a.entries.now a.counters.now a.energies.now (Err c.in-Err.refused) c.in-Err.ensures.whole c.in-Err.ensures.part) in
    (c.from.ensures ∙ told.0, told.1)
