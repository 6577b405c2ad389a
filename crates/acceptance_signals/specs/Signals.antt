-- Demand 1 for the calls over samples: sample peak and weighting (`process`, `seed`), and true peak; and for an `Interleaved`, its questions and the filter's calls over it.
-- "Given exactly when", "Checks run in table order", and "Lent memory and states passed by value come back as given". And their statements fix their outcomes: the answer,
-- the peaks, the states and the destination. proofs/Signals.antt proves `SignalCalls`, for samples of every kind at once.
use Rattle.std.specs.Prelude.{ℕ, cond, List, [], eqb, length, Float}
use Rattle.base_refusals.specs.Answer.{said}
use Rattle.base_refusals.specs.Rows.{Row, RefusedBy}
use Rattle.filter_checks.specs.Calls.{frame_rows}
use Rattle.filter.specs.Call.{Call, given}
use Rattle.filter.specs.Process.{process_rows, processed}
use Rattle.filter.specs.Seed.{seed_rows, seeded}
use Rattle.true_peak_state.specs.declared.TruePeak.{TruePeak}
use Rattle.true_peak_state.specs.TruePeak.{Heard}
use Rattle.true_peak.specs.TruePeak.{peak_rows, processed as peak_processed, seeded as peak_seeded}
use Rattle.interleaved_slices.specs.Shown.{frames_in, sample_in}
use Rattle.interleaved_slices.specs.Said.{sample_said}
use Rattle.interleaved_filter.specs.Over.{over}
use Rattle.interleaved_filter.specs.Said.{said_of}
use Rattle.acceptance_outcomes.specs.Fixed.{Fixed}

-- what refuses a filter's call over a source of so many channels: what refuses the call over its samples. A source of other channels than the filter's is no refusal
abbrev pub rows_over : (Call → List Row) → ℕ → Call → List Row
rows_over rows channels call = cond (eqb channels call.filter.channels) (rows call) []

-- The rows stand in crate `filter_checks`, each below its sentence of 01: CHANNELS and SAMPLES for the true peak, MAP after them for `seed`, and DEST, with loudness on, after those for `process`.
pub record SignalCalls : Type 0 where
  pub process : (call : Call) → RefusedBy (process_rows call) (processed call)
  pub seed : (call : Call) → RefusedBy (seed_rows call) (seeded call)
  pub true_peak : (rate : ℕ) (source : Heard) (t : TruePeak) → RefusedBy (peak_rows source) (peak_processed rate source t)
  pub seed_true_peak : (rate : ℕ) (source : Heard) (t : TruePeak) → RefusedBy (peak_rows source) (peak_seeded rate source t)
  -- the filter, with its peaks and states, and the destination
  pub fixed_process : (call : Call) → Fixed said (given call) (processed call)
  pub fixed_seed : (call : Call) → Fixed said (given call) (seeded call)
  pub fixed_true_peak : (rate : ℕ) (source : Heard) (t : TruePeak) → Fixed said t (peak_processed rate source t)
  pub fixed_seed_true_peak : (rate : ℕ) (source : Heard) (t : TruePeak) → Fixed said t (peak_seeded rate source t)
  -- an `Interleaved`
  pub frames : (channels samples : ℕ) → RefusedBy (frame_rows channels samples) (frames_in channels samples)
  pub sample : (channels : ℕ) (samples : List Float) (channel frame : ℕ) → RefusedBy (frame_rows channels (length samples)) (sample_in channels samples channel frame)
  pub process_over : (channels : ℕ) (call : Call) → RefusedBy (rows_over process_rows channels call) (over processed channels call)
  pub seed_over : (channels : ℕ) (call : Call) → RefusedBy (rows_over seed_rows channels call) (over seeded channels call)
  pub fixed_frames : (channels samples : ℕ) → Fixed said tt (frames_in channels samples)
  pub fixed_sample : (channels : ℕ) (samples : List Float) (channel frame : ℕ) → Fixed sample_said tt (sample_in channels samples channel frame)
  pub fixed_process_over : (channels : ℕ) (call : Call) → Fixed said_of (given call) (over processed channels call)
  pub fixed_seed_over : (channels : ℕ) (call : Call) → Fixed said_of (given call) (over seeded channels call)
