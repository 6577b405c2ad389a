-- `process_lent` meets its contract: the check's refusal is the call's, and past it each part leaves what the definitions say. Assumes nothing.
use Rattle.std.proofs.Common.{◌≡◌, ℕ, List, length}
use Rattle.std.proofs.lemmas.Result.{err_from_is_err_and}
use lib.Ieee.{Float}
use Rattle.samples.specs.Kinds.{Samples}
use Rattle.samples.specs.Sample.{samples_by}
use Rattle.filter_recurrence.specs.declared.Coefficients.{Coefficients}
use Rattle.filter.specs.declared.Switches.{Switches}
use Rattle.filter.specs.Filter.{Arrays, resting, with_arrays}
use Rattle.filter.specs.Call.{Call}
use Rattle.filter.specs.Process.{measured_peaks, measured_true_peaks}
use Rattle.filter_process.proofs.Parts.{stays, passes, moves, peaks_on, peaks_off, trues_on, trues_off, weighing_on, weighing_off}
use Rattle.filter_process.proofs.process_lent.Goals as goal
use Rattle.filter_process.proofs.process_lent.Goals.{then-switches, else-switches, then-switches-2, else-switches-2}

abbrev call_of : ℕ → ℕ → Switches → Coefficients → Arrays → Samples → List ℕ → List Float → ℕ → Call
call_of channels rate switches coefficients arrays samples map dest start =
    record { filter = with_arrays (resting channels rate switches coefficients) arrays; samples = samples; map = map; dest = dest; start = start }

pub returns-in_err-refused_process : goal.returns-in_err-refused_process
returns-in_err-refused_process g c =
    let a = c.args in
    let arrays : Arrays = record { state = a.state.now; peaks = a.peaks.now; memory = a.memory.now; true_peaks = a.true_peaks.now } in
    let k = call_of a.channels a.rate a.switches (record { a = a.a.now; b = a.b.now }) arrays (g.S.Sample.lent a.samples.now) a.map.now a.dest.now a.start in
    let p = err_from_is_err_and c.from_residual.result c.from_residual.ensures.1 in
    rw (p.1, p.2) (stays k (length a.samples.now) (g.met.S.Sample.sizes a.samples.now) c.in_err-refused_process.field-0.0 c.in_err-refused_process.ensures)

pub returns-then-loudness : goal.returns-then-loudness
returns-then-loudness g c =
    let a = c.args in
    let f = g.S.Sample.in_f64 in
    let arrays : Arrays = record { state = a.state.now; peaks = a.peaks.now; memory = a.memory.now; true_peaks = a.true_peaks.now } in
    let k = call_of a.channels a.rate a.switches (record { a = a.a.now; b = a.b.now }) arrays (g.S.Sample.lent a.samples.now) a.map.now a.dest.now a.start in
    let ok = passes k (length a.samples.now) (g.met.S.Sample.sizes a.samples.now) c.in_ok-refused_process.ensures in
    let peaks : c.if-switches.peaks ≡ (measured_peaks k).values = elim c.if-switches.branch [
      | then-switches w ↦ peaks_on k ok (samples_by f a.samples.now) (g.met.S.Sample.wide a.samples.now) w.if-switches.true c.if-switches.peaks w.raise.new.peaks w.peaks-is w.raise.ensures
      | else-switches w ↦ peaks_off k w.if-switches.false c.if-switches.peaks w.peaks-is
    ] in
    let trues : (c.if-switches-2.memory ≡ (measured_true_peaks k).memory) × (c.if-switches-2.true_peaks ≡ (measured_true_peaks k).peaks) = elim c.if-switches-2.branch [
      | then-switches-2 w ↦
          trues_on k ok (samples_by g.S.Sample.in_f32 a.samples.now) (g.met.S.Sample.narrow a.samples.now) w.if-switches-2.true c.if-switches-2.memory c.if-switches-2.true_peaks w.listen.new.memory w.listen.new.peaks w.memory-is w.true_peaks-is w.listen.ensures
      | else-switches-2 w ↦ trues_off k w.if-switches-2.false c.if-switches-2.memory c.if-switches-2.true_peaks w.memory-is w.true_peaks-is
    ] in
    let w = weighing_on k ok (samples_by f a.samples.now) (g.met.S.Sample.wide a.samples.now) c.if-loudness.true c.process_lent.new.state c.process_lent.new.dest (c.process_lent.ensures.1, c.process_lent.ensures.2) in
    moves k ok c.process_lent.new.state c.if-switches.peaks c.if-switches-2.memory c.if-switches-2.true_peaks c.process_lent.new.dest w.0 peaks trues.0 trues.1 w.1

pub returns-else-loudness : goal.returns-else-loudness
returns-else-loudness g c =
    let a = c.args in
    let f = g.S.Sample.in_f64 in
    let arrays : Arrays = record { state = a.state.now; peaks = a.peaks.now; memory = a.memory.now; true_peaks = a.true_peaks.now } in
    let k = call_of a.channels a.rate a.switches (record { a = a.a.now; b = a.b.now }) arrays (g.S.Sample.lent a.samples.now) a.map.now a.dest.now a.start in
    let ok = passes k (length a.samples.now) (g.met.S.Sample.sizes a.samples.now) c.in_ok-refused_process.ensures in
    let peaks : c.if-switches.peaks ≡ (measured_peaks k).values = elim c.if-switches.branch [
      | then-switches w ↦ peaks_on k ok (samples_by f a.samples.now) (g.met.S.Sample.wide a.samples.now) w.if-switches.true c.if-switches.peaks w.raise.new.peaks w.peaks-is w.raise.ensures
      | else-switches w ↦ peaks_off k w.if-switches.false c.if-switches.peaks w.peaks-is
    ] in
    let trues : (c.if-switches-2.memory ≡ (measured_true_peaks k).memory) × (c.if-switches-2.true_peaks ≡ (measured_true_peaks k).peaks) = elim c.if-switches-2.branch [
      | then-switches-2 w ↦
          trues_on k ok (samples_by g.S.Sample.in_f32 a.samples.now) (g.met.S.Sample.narrow a.samples.now) w.if-switches-2.true c.if-switches-2.memory c.if-switches-2.true_peaks w.listen.new.memory w.listen.new.peaks w.memory-is w.true_peaks-is w.listen.ensures
      | else-switches-2 w ↦ trues_off k w.if-switches-2.false c.if-switches-2.memory c.if-switches-2.true_peaks w.memory-is w.true_peaks-is
    ] in
    let w = weighing_off k c.if-loudness.false in
    moves k ok a.state.now c.if-switches.peaks c.if-switches-2.memory c.if-switches-2.true_peaks a.dest.now w.0 peaks trues.0 trues.1 w.1
