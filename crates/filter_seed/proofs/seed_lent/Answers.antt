-- `seed_lent` meets its contract: the check's refusal is the call's, and past it each part leaves what the definitions say. Assumes nothing.
use Rattle.std.proofs.Common.{◌≡◌, ℕ, List, length}
use Rattle.std.proofs.lemmas.Result.{err_from_is_err_and}
use Rattle.samples.specs.Kinds.{Samples}
use Rattle.samples.specs.Sample.{samples_by}
use Rattle.filter_recurrence.specs.declared.Coefficients.{Coefficients}
use Rattle.filter.specs.declared.Switches.{Switches}
use Rattle.filter.specs.Filter.{Arrays, resting, with_arrays}
use Rattle.filter.specs.Call.{Call, seed_of}
use Rattle.filter.specs.Seed.{remembered_true_peaks}
use Rattle.filter_seed.proofs.Parts.{stays, passes, moves, memory_on, memory_off, state_on, state_off}
use Rattle.filter_seed.proofs.seed_lent.Goals as goal
use Rattle.filter_seed.proofs.seed_lent.Goals.{then-switches, else-switches}

abbrev call_of : ℕ → ℕ → Switches → Coefficients → Arrays → Samples → List ℕ → Call
call_of channels rate switches coefficients arrays samples map = seed_of (with_arrays (resting channels rate switches coefficients) arrays) samples map

pub returns-in_err-refused_seed : goal.returns-in_err-refused_seed
returns-in_err-refused_seed g c =
    let a = c.args in
    let arrays : Arrays = record { state = a.state.now; peaks = a.peaks.now; memory = a.memory.now; true_peaks = a.true_peaks.now } in
    let k = call_of a.channels a.rate a.switches (record { a = a.a.now; b = a.b.now }) arrays (g.S.Sample.lent a.samples.now) a.map.now in
    let p = err_from_is_err_and c.from_residual.result c.from_residual.ensures.1 in
    rw (p.1, p.2) (stays k (length a.samples.now) (g.met.S.Sample.sizes a.samples.now) c.in_err-refused_seed.field-0.0 c.in_err-refused_seed.ensures)

pub returns-then-switches-2 : goal.returns-then-switches-2
returns-then-switches-2 g c =
    let a = c.args in
    let arrays : Arrays = record { state = a.state.now; peaks = a.peaks.now; memory = a.memory.now; true_peaks = a.true_peaks.now } in
    let k = call_of a.channels a.rate a.switches (record { a = a.a.now; b = a.b.now }) arrays (g.S.Sample.lent a.samples.now) a.map.now in
    let ok = passes k (length a.samples.now) (g.met.S.Sample.sizes a.samples.now) c.in_ok-refused_seed.ensures in
    let memory : c.if-switches.memory ≡ (remembered_true_peaks k).memory = elim c.if-switches.branch [
      | then-switches w ↦ memory_on k ok (samples_by g.S.Sample.in_f32 a.samples.now) (g.met.S.Sample.narrow a.samples.now) w.if-switches.true c.if-switches.memory w.remember.new.memory w.memory-is w.remember.ensures
      | else-switches w ↦ memory_off k w.if-switches.false c.if-switches.memory w.memory-is
    ] in
    let state = state_on k ok (samples_by g.S.Sample.in_f64 a.samples.now) (g.met.S.Sample.wide a.samples.now) c.if-switches-2.true c.advance.new.state c.advance.ensures in
    moves k ok c.advance.new.state c.if-switches.memory state memory

pub returns-else-switches-2 : goal.returns-else-switches-2
returns-else-switches-2 g c =
    let a = c.args in
    let arrays : Arrays = record { state = a.state.now; peaks = a.peaks.now; memory = a.memory.now; true_peaks = a.true_peaks.now } in
    let k = call_of a.channels a.rate a.switches (record { a = a.a.now; b = a.b.now }) arrays (g.S.Sample.lent a.samples.now) a.map.now in
    let ok = passes k (length a.samples.now) (g.met.S.Sample.sizes a.samples.now) c.in_ok-refused_seed.ensures in
    let memory : c.if-switches.memory ≡ (remembered_true_peaks k).memory = elim c.if-switches.branch [
      | then-switches w ↦ memory_on k ok (samples_by g.S.Sample.in_f32 a.samples.now) (g.met.S.Sample.narrow a.samples.now) w.if-switches.true c.if-switches.memory w.remember.new.memory w.memory-is w.remember.ensures
      | else-switches w ↦ memory_off k w.if-switches.false c.if-switches.memory w.memory-is
    ] in
    moves k ok a.state.now c.if-switches.memory (state_off k c.if-switches-2.false) memory
