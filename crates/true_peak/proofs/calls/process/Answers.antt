-- `calls::process` meets its contract: the check's refusal is the call's, and past it the state is what the definition says. Assumes nothing.
use Rattle.std.proofs.Common.{List, map, length, sym, ap, ◌∙◌}
use lib.Ieee.{Float}
use Rattle.base_refusals.specs.Refusal.{number}
use Rattle.base_refusals.specs.Outcome.{said_by, kept_by, went, done}
use Rattle.base_refusals.proofs.Numbers.{no_number}
use Rattle.base_refusals.proofs.Rows.{stopped, goes}
use Rattle.filter_checks.specs.Calls.{frame_rows}
use Rattle.true_peak_interp.specs.Interp.{kind_of}
use Rattle.true_peak_state.specs.declared.TruePeak.{TruePeak}
use Rattle.true_peak_state.specs.TruePeak.{measured}
use Rattle.true_peak.proofs.Turns.{counted}
use Rattle.true_peak.proofs.calls.process.Goals as goal

pub returns-in-Err : goal.returns-in-Err
returns-in-Err g c =
    let a = c.args in
    let f = g.S.Sample.in_f32 in
    let floats : List Float = map f a.samples.now in
    let leaves : TruePeak = measured (kind_of a.rate) (record { channels = a.channels; samples = floats }) a.t in
    let r = c.in-Err.refusal in
    let s = stopped (went leaves done) (frame_rows a.channels (length floats)) a.t (number r) (c.in-Err.ensures ∙ counted f a.samples.now a.channels) (no_number r) in
    record { answer_value = s.says; state_value = s.keeps }

pub measure-requires : goal.measure-requires
measure-requires g c = sym c.in-Ok.ensures

pub returns-in-Ok : goal.returns-in-Ok
returns-in-Ok g c =
    let a = c.args in
    let f = g.S.Sample.in_f32 in
    let floats : List Float = map f a.samples.now in
    let leaves : TruePeak = measured (kind_of a.rate) (record { channels = a.channels; samples = floats }) a.t in
    let z = goes (went leaves done) (frame_rows a.channels (length floats)) (sym (c.in-Ok.ensures ∙ counted f a.samples.now a.channels)) in
    record { answer_value = ap said_by (sym z); state_value = c.measure.ensures ∙ ap (kept_by a.t) (sym z) }
