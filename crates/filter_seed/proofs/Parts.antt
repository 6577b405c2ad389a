-- What each part of the filter leaves of a seed call: what its definition says, where the call passes and the part is on. Assumes nothing.
use Rattle.std.proofs.Common.{◌≡◌, ℕ, Bool, true, false, cond, List, refl, sym, ap, ◌∙◌, length}
use lib.Ieee.{Float}
use Rattle.base_refusals.specs.declared.Refusal.{Refusal}
use Rattle.base_refusals.specs.Refusal.{number}
use Rattle.base_refusals.specs.Outcome.{Outcome, Said, says, refusal, said_by, kept_by, went, NoValues, done}
use Rattle.base_refusals.specs.Rows.{number_of}
use Rattle.base_refusals.proofs.Numbers.{no_number}
use Rattle.base_refusals.proofs.Rows.{stopped, goes}
use Rattle.samples.specs.Kinds.{size_of, as_f64, as_f32}
use Rattle.samples.proofs.ByKind.{size_f64, size_f32}
use Rattle.filter_recurrence.specs.declared.states.State.{State}
use Rattle.filter_checks.specs.Calls as calls
use Rattle.filter_checks.proofs.Checking.{seed_frames}
use Rattle.filter_recurrence.specs.Channels as recurrence
use Rattle.filter_weighting.specs.Seeding as seeding
use Rattle.true_peak_interp.specs.Interp.{kind_of}
use Rattle.true_peak_state.specs.declared.TruePeak.{TruePeak}
use Rattle.true_peak_state.specs.TruePeak.{measured}
use Rattle.true_peak.specs.TruePeak as trues
use Rattle.filter.specs.declared.Filter.{Filter}
use Rattle.filter.specs.Filter.{moved, with_arrays}
use Rattle.filter.specs.Call.{Call, Kept, given, kept, weighing, hearing, weighed_state}
use Rattle.filter.specs.Seed.{remembered_true_peaks, seed_rows, seeded}

-- a seed call moves no peak
same_peaks : (on : Bool) (t : TruePeak) (memory : List Float) → t.peaks ≡ (cond on (record { memory = memory; peaks = t.peaks }) t).peaks
same_peaks true t memory = refl
same_peaks false t memory = refl

module _ (call : Call) where
  abbrev f : Filter
  f = call.filter

  abbrev leaves : Outcome Kept NoValues
  leaves = went (record { filter = moved f (weighed_state call) f.peaks (remembered_true_peaks call); dest = call.dest }) done

  -- the check goes by how many samples there are
  module _ (samples : ℕ) (size : size_of call.samples ≡ samples) where
    abbrev checked : ℕ
    checked = number_of (calls.seed_rows f.channels samples call.map)

    numbered : checked ≡ number_of (seed_rows call)
    numbered = ap (λ (n : ℕ). number_of (calls.seed_rows f.channels n call.map)) (sym size)

    -- it refuses, and all stays
    pub stays : (r : Refusal) → number r ≡ checked → (refusal (number r) ≡ said_by (seeded call)) × (f ≡ (kept seeded call).filter)
    unfolding seeded
    stays r e = let s = stopped leaves (seed_rows call) (given call) (number r) (e ∙ numbered) (no_number r) in (s.says, ap (λ (k : Kept). k.filter) s.keeps)

    pub passes : 0 ≡ checked → number_of (seed_rows call) ≡ 0
    passes e = sym (e ∙ numbered)

  -- it passes
  module _ (ok : number_of (seed_rows call) ≡ 0) where
    pub moves : (state memory : List Float) → state ≡ (weighed_state call).values → memory ≡ (remembered_true_peaks call).memory
        → (◌≡◌ {A = Said NoValues} (says done) (said_by (seeded call)))
        × (with_arrays f (record { state = state; peaks = f.peaks.values; memory = memory; true_peaks = f.true_peak.peaks }) ≡ (kept seeded call).filter)
    unfolding seeded
    moves state memory s m =
        let z = sym (goes leaves (seed_rows call) ok) in
        let t = same_peaks f.switches.true_peak f.true_peak (measured (kind_of f.rate) (hearing call) f.true_peak).memory in
        (ap said_by z, (λ i. with_arrays f (record { state = s i; peaks = f.peaks.values; memory = m i; true_peaks = t i })) ∙ ap (λ (o : Outcome Kept NoValues). (kept_by (given call) o).filter) z)

    pub memory_on : (floats : List Float) → as_f32 call.samples ≡ floats → f.switches.true_peak ≡ true → (memory left : List Float) → memory ≡ left
        → left ≡ (kept_by f.true_peak (trues.seeded f.rate (record { channels = f.channels; samples = floats }) f.true_peak)).memory → memory ≡ (remembered_true_peaks call).memory
    memory_on floats e on memory left now h =
        let passes : number_of (trues.peak_rows (hearing call)) ≡ 0 =
        ap (λ (n : ℕ). number_of (calls.frame_rows f.channels n)) (size_f32 call.samples) ∙ seed_frames f.channels (size_of call.samples) call.map ok in
        rw on (now ∙ h ∙ ap (λ (x : List Float). (kept_by f.true_peak (trues.seeded f.rate (record { channels = f.channels; samples = x }) f.true_peak)).memory) (sym e)
        ∙ ap (λ (o : Outcome TruePeak NoValues). (kept_by f.true_peak o).memory)
        (goes (went (record { memory = (measured (kind_of f.rate) (hearing call) f.true_peak).memory; peaks = f.true_peak.peaks }) done) (trues.peak_rows (hearing call)) passes))

    pub state_on : (floats : List Float) → as_f64 call.samples ≡ floats → f.switches.loudness ≡ true → (state : List Float)
        → state ≡ (kept_by f.state (seeding.moved (recurrence.weighing_of f.coefficients f.state f.channels floats call.map))).values → state ≡ (weighed_state call).values
    unfolding seeding.moved
    state_on floats e on state h =
        let passes = ap (λ (n : ℕ). number_of (calls.seed_rows f.channels n call.map)) (size_f64 call.samples) ∙ ok in
        rw on (h ∙ ap (λ (x : List Float). (kept_by f.state (seeding.moved (recurrence.weighing_of f.coefficients f.state f.channels x call.map))).values) (sym e)
        ∙ ap (λ (o : Outcome State NoValues). (kept_by f.state o).values)
        (goes (went (record { values = recurrence.state_after (weighing call) }) done) (calls.seed_rows f.channels (length (as_f64 call.samples)) call.map) passes))

  -- what is off leaves its own things
  pub memory_off : f.switches.true_peak ≡ false → (memory : List Float) → memory ≡ f.true_peak.memory → memory ≡ (remembered_true_peaks call).memory
  memory_off off memory h = rw off h

  pub state_off : f.switches.loudness ≡ false → f.state.values ≡ (weighed_state call).values
  state_off off = rw off refl
