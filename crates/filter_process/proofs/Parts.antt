-- What each part of the filter leaves of a call: what its definition says, where the call passes and the part is on. Assumes nothing.
use Rattle.std.proofs.Common.{◌≡◌, ℕ, true, false, List, refl, sym, ap, ◌∙◌, length}
use lib.Ieee.{Float}
use Rattle.base_refusals.specs.declared.Refusal.{Refusal}
use Rattle.base_refusals.specs.Refusal.{number}
use Rattle.base_refusals.specs.Outcome.{Outcome, Said, says, refusal, said_by, kept_by, went, NoValues, done}
use Rattle.base_refusals.specs.Rows.{number_of}
use Rattle.base_refusals.proofs.Numbers.{no_number}
use Rattle.base_refusals.proofs.Rows.{stopped, goes}
use Rattle.samples.specs.Kinds.{size_of, as_f64, as_f32}
use Rattle.samples.proofs.ByKind.{size_f64, size_f32}
use Rattle.filter_checks.specs.Calls.{sizes, frame_rows}
use Rattle.filter_checks.specs.Calls as calls
use Rattle.filter_checks.proofs.Checking.{seed_frames, process_seeds}
use Rattle.filter_recurrence.specs.Channels as recurrence
use Rattle.filter_weighting.specs.Weighting as weighting
use Rattle.filter_sample_peak.specs.declared.Peaks.{Peaks}
use Rattle.filter_sample_peak.specs.Peak.{peaks_after, raised}
use Rattle.true_peak_interp.specs.Interp.{kind_of}
use Rattle.true_peak_state.specs.declared.TruePeak.{TruePeak}
use Rattle.true_peak_state.specs.TruePeak.{measured}
use Rattle.true_peak.specs.TruePeak as trues
use Rattle.filter.specs.declared.Filter.{Filter}
use Rattle.filter.specs.Filter.{moved}
use Rattle.filter.specs.Call.{Call, Kept, given, standing, kept, weighing, hearing, weighed_state}
use Rattle.filter.specs.Process.{weighed_dest, measured_peaks, measured_true_peaks, process_rows, processed}

-- ---- the weighting by itself

module _ (call : recurrence.Weighing) (dest : List Float) (start : ℕ) where
  abbrev weighs : weighting.Kept
  weighs = record { state = record { values = recurrence.state_after call }; dest = weighting.dest_after call dest start }

  went_on : number_of (weighting.weighing_rows call dest start) ≡ 0 → weighting.kept call dest start ≡ weighs
  unfolding weighting.weighed
  went_on e = ap (kept_by (record { state = call.state; dest = dest })) (goes (went weighs done) (weighting.weighing_rows call dest start) e)

-- ---- a call

module _ (call : Call) where
  abbrev f : Filter
  f = call.filter

  abbrev leaves : Outcome Kept NoValues
  leaves = went (record { filter = moved f (weighed_state call) (measured_peaks call) (measured_true_peaks call); dest = weighed_dest call }) done

  -- the check goes by how many samples there are
  module _ (samples : ℕ) (size : size_of call.samples ≡ samples) where
    abbrev checked : ℕ
    checked = number_of (calls.process_rows f.switches.loudness (sizes f.channels samples (length call.dest) call.start) call.map)

    numbered : checked ≡ number_of (process_rows call)
    numbered = ap (λ (n : ℕ). number_of (calls.process_rows f.switches.loudness (sizes f.channels n (length call.dest) call.start) call.map)) (sym size)

    -- it refuses, and all stays
    pub stays : (r : Refusal) → number r ≡ checked → (refusal (number r) ≡ said_by (processed call)) × (given call ≡ kept processed call)
    unfolding processed
    stays r e = let s = stopped leaves (process_rows call) (given call) (number r) (e ∙ numbered) (no_number r) in (s.says, s.keeps)

    pub passes : 0 ≡ checked → number_of (process_rows call) ≡ 0
    passes e = sym (e ∙ numbered)

  -- it passes
  module _ (ok : number_of (process_rows call) ≡ 0) where
    pub moves : (state peaks memory true_peaks dest : List Float) → state ≡ (weighed_state call).values → peaks ≡ (measured_peaks call).values
        → memory ≡ (measured_true_peaks call).memory → true_peaks ≡ (measured_true_peaks call).peaks → dest ≡ weighed_dest call
        → (◌≡◌ {A = Said NoValues} (says done) (said_by (processed call)))
        × (standing f (record { state = state; peaks = peaks; memory = memory; true_peaks = true_peaks }) dest ≡ kept processed call)
    unfolding processed
    moves state peaks memory true_peaks dest s p m t d =
        let z = sym (goes leaves (process_rows call) ok) in
        (ap said_by z, (λ i. standing f (record { state = s i; peaks = p i; memory = m i; true_peaks = t i }) (d i)) ∙ ap (kept_by (given call)) z)

    -- so many samples of its channels pass
    frames : (n : ℕ) → n ≡ size_of call.samples → number_of (frame_rows f.channels n) ≡ 0
    frames n e =
        ap (λ (m : ℕ). number_of (frame_rows f.channels m)) e
        ∙ seed_frames f.channels (size_of call.samples) call.map
        (process_seeds f.switches.loudness (sizes f.channels (size_of call.samples) (length call.dest) call.start) call.map ok)

    module _ (floats : List Float) (e : as_f64 call.samples ≡ floats) where
      pub peaks_on : f.switches.peak ≡ true → (after left : List Float) → after ≡ left → left ≡ (kept_by f.peaks (raised f.channels floats f.peaks)).values → after ≡ (measured_peaks call).values
      unfolding raised
      peaks_on on after left now h =
          let samples = as_f64 call.samples in
          rw on (now ∙ h ∙ ap (λ (x : List Float). (kept_by f.peaks (raised f.channels x f.peaks)).values) (sym e)
          ∙ ap (λ (o : Outcome Peaks NoValues). (kept_by f.peaks o).values)
          (goes (went (record { values = peaks_after f.channels samples f.peaks.values }) done) (frame_rows f.channels (length samples)) (frames (length samples) (size_f64 call.samples))))

      pub weighing_on : f.switches.loudness ≡ true → (state dest : List Float) →
          let k = weighting.kept (recurrence.weighing_of f.coefficients f.state f.channels floats call.map) call.dest call.start in
          (state ≡ k.state.values) × (dest ≡ k.dest) → (state ≡ (weighed_state call).values) × (dest ≡ weighed_dest call)
      weighing_on on state dest h =
          let samples = as_f64 call.samples in
          let rows : number_of (weighting.weighing_rows (weighing call) call.dest call.start) ≡ 0 =
          (λ i. number_of (calls.process_rows (sym on i) (sizes f.channels (size_f64 call.samples i) (length call.dest) call.start) call.map)) ∙ ok in
          let same = ap (λ (x : List Float). weighting.kept (recurrence.weighing_of f.coefficients f.state f.channels x call.map) call.dest call.start) (sym e)
          ∙ went_on (weighing call) call.dest call.start rows in
          rw on (h.0 ∙ ap (λ (k : weighting.Kept). k.state.values) same, h.1 ∙ ap (λ (k : weighting.Kept). k.dest) same)

    pub trues_on : (floats : List Float) → as_f32 call.samples ≡ floats → f.switches.true_peak ≡ true → (memory peaks memory' peaks' : List Float) → memory ≡ memory' → peaks ≡ peaks' →
        let after = kept_by f.true_peak (trues.processed f.rate (record { channels = f.channels; samples = floats }) f.true_peak) in
        (memory' ≡ after.memory) × (peaks' ≡ after.peaks) → (memory ≡ (measured_true_peaks call).memory) × (peaks ≡ (measured_true_peaks call).peaks)
    trues_on floats e on memory peaks memory' peaks' m p h =
        let same = ap (λ (x : List Float). kept_by f.true_peak (trues.processed f.rate (record { channels = f.channels; samples = x }) f.true_peak)) (sym e)
        ∙ ap (λ (o : Outcome TruePeak NoValues). kept_by f.true_peak o)
        (goes (went (measured (kind_of f.rate) (hearing call) f.true_peak) done) (trues.peak_rows (hearing call)) (frames (length (as_f32 call.samples)) (size_f32 call.samples))) in
        rw on (m ∙ h.0 ∙ ap (λ (t : TruePeak). t.memory) same, p ∙ h.1 ∙ ap (λ (t : TruePeak). t.peaks) same)

  -- what is off leaves its own things
  pub peaks_off : f.switches.peak ≡ false → (after : List Float) → after ≡ f.peaks.values → after ≡ (measured_peaks call).values
  peaks_off off after h = rw off h

  pub trues_off : f.switches.true_peak ≡ false → (memory peaks : List Float) → memory ≡ f.true_peak.memory → peaks ≡ f.true_peak.peaks
      → (memory ≡ (measured_true_peaks call).memory) × (peaks ≡ (measured_true_peaks call).peaks)
  trues_off off memory peaks m p = rw off (m, p)

  pub weighing_off : f.switches.loudness ≡ false → (f.state.values ≡ (weighed_state call).values) × (call.dest ≡ weighed_dest call)
  weighing_off off = rw off (refl, refl)
