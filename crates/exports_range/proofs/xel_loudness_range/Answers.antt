-- `exports_range::xel_loudness_range` meets its contract: each case of the answer is told as the C interface tells it. Assumes nothing.
use Rattle.std.proofs.Common.{arith}
use Rattle.base_refusals.specs.Refusal.{number}
use Rattle.range.specs.Range.{found, nothing, not_a_number}
use Rattle.exports_range.specs.Spans.{range_asked}
use Rattle.exports_range.proofs.Told.{span_told, no_span_told}
use Rattle.exports_range.proofs.xel_loudness_range.Goals as goal

pub returns-in-Found : goal.returns-in-Found
returns-in-Found c =
    let a = c.args in
    let o = range_asked a.entries.now a.counters.now a.energies.now a.work.now in
    let told = span_told o a.low.now a.high.now (found c.in-Found.lower c.in-Found.higher) c.in-Found.ensures.0 in
    (told.0, c.in-Found.ensures.1, told.1, told.2)

pub returns-in-Nothing : goal.returns-in-Nothing
returns-in-Nothing c =
    let a = c.args in
    let o = range_asked a.entries.now a.counters.now a.energies.now a.work.now in
    let told = span_told o a.low.now a.high.now nothing c.in-Nothing.ensures.0 in
    (told.0, c.in-Nothing.ensures.1, told.1, told.2)

pub returns-in-NotANumber : goal.returns-in-NotANumber
returns-in-NotANumber c =
    let a = c.args in
    let o = range_asked a.entries.now a.counters.now a.energies.now a.work.now in
    let told = span_told o a.low.now a.high.now not_a_number c.in-NotANumber.ensures.0 in
    (told.0, c.in-NotANumber.ensures.1, told.1, told.2)

pub returns-in-Refused : goal.returns-in-Refused
returns-in-Refused c =
    let a = c.args in
    let o = range_asked a.entries.now a.counters.now a.energies.now a.work.now in
    let told = no_span_told o a.low.now a.high.now (number c.in-Refused.refusal) c.in-Refused.ensures.0 in
    (omega (arith, told.0), c.in-Refused.ensures.1, told.1, told.2)
