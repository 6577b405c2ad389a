-- Demand 1 for the calls over samples, proved: each definition goes down its rows, so it is refused exactly when 01 says. Assumes nothing.
use Prim.Native.Nat.{ℕ}
use mathlib.Core.Path.{◌≡◌, refl, sym, ap, subst}
use Rattle.std.specs.Prelude.{Result, Ok, Err, Option, Some, None}
use lib.Ieee.{Float}
use Rattle.base_refusals.specs.declared.Refusal.{Refusal}
use mathlib.Core.Bool.{Bool, true, false, cond}
use mathlib.Core.List.{List, [], ◌∷◌}
use lib.Dec.{eqb}
use lib.ListN.{length}
use Rattle.base_refusals.specs.Answer.{said}
use Rattle.base_refusals.specs.Outcome.{Outcome, went, refused, Said, says, refusal, NoValues, done}
use Rattle.base_refusals.specs.Rows.{Row, by_rows, RefusedBy}
use Rattle.base_refusals.proofs.Rows.{refused_by}
use Rattle.filter.specs.Call.{Call, Kept, given}
use Rattle.filter.specs.Process.{process_rows, processed}
use Rattle.filter.specs.Seed.{seed_rows, seeded}
use Rattle.true_peak_state.specs.declared.TruePeak.{TruePeak}
use Rattle.true_peak.specs.TruePeak.{peak_rows, processed as peak_processed, seeded as peak_seeded}
use Rattle.filter_checks.specs.Calls.{frame_rows}
use Rattle.interleaved_slices.specs.Shown.{Place, at, past_the_end, frames_in, sample_in}
use Rattle.interleaved_slices.specs.Said.{sample_said}
use Rattle.interleaved_filter.specs.Over.{Taken, taken, other_channels, whole, over}
use Rattle.interleaved_filter.specs.Said.{said_of}
use Rattle.interleaved_filter.specs.declared.Took.{Took}
use Rattle.interleaved_filter.specs.declared.Took.TheVariants.{Done, OtherChannels}
use Rattle.acceptance_outcomes.proofs.Fixed.{refusal_of, refusal_there, fixes, answer_back, answer_there}
use Rattle.acceptance_signals.specs.Signals.{rows_over, SignalCalls}

seeds : (call : Call) → RefusedBy (seed_rows call) (seeded call)
unfolding seeded
seeds call = refused_by (seed_rows call) _ done

processes : (call : Call) → RefusedBy (process_rows call) (processed call)
unfolding processed
processes call = refused_by (process_rows call) _ done

-- ---- the filter's calls over an `Interleaved`
-- the answer among these, by the same rows
rows_whole : (rows : List Row) (call : Outcome Kept NoValues) → whole (by_rows rows call) ≡ by_rows rows (whole call)
rows_whole [] call = refl
rows_whole (row ∷ rest) call = go row.holds (rows_whole rest call)
  where
    go : (b : Bool) → whole (by_rows rest call) ≡ by_rows rest (whole call)
        → whole (cond b (refused row.refuses) (by_rows rest call)) ≡ cond b (refused row.refuses) (by_rows rest (whole call))
    go true later = refl
    go false later = later

-- a source of the filter's channels, or of others
over_rows : (same : Bool) (rows : List Row) (before after : Kept)
    → RefusedBy (cond same rows []) (cond same (whole (by_rows rows (went after done))) (went before other_channels))
over_rows true rows before after = subst (RefusedBy rows) (sym (rows_whole rows (went after done))) (refused_by rows after taken)
over_rows false rows before after = refused_by [] before other_channels

module _ (channels : ℕ) (call : Call) where
  seeds_over : RefusedBy (rows_over seed_rows channels call) (over seeded channels call)
  unfolding seeded
  seeds_over = over_rows (eqb channels call.filter.channels) (seed_rows call) (given call) _

  processes_over : RefusedBy (rows_over process_rows channels call) (over processed channels call)
  unfolding processed
  processes_over = over_rows (eqb channels call.filter.channels) (process_rows call) (given call) _

-- ---- the ways back from what an `Interleaved` answers
sample_back : Said Place → Result (Option Float) Refusal
sample_back (says (at x)) = Ok (Some x)
sample_back (says past_the_end) = Ok None
sample_back (refusal n) = Err (refusal_of n)

sample_there : (a : Result (Option Float) Refusal) → sample_back (sample_said a) ≡ a
unfolding sample_back
sample_there (Ok (Some x)) = refl
sample_there (Ok None) = refl
sample_there (Err r) = ap Err (refusal_there r)

took_back : Said Taken → Result Took Refusal
took_back (says taken) = Ok Done
took_back (says other_channels) = Ok OtherChannels
took_back (refusal n) = Err (refusal_of n)

took_there : (a : Result Took Refusal) → took_back (said_of a) ≡ a
unfolding took_back
took_there (Ok Done) = refl
took_there (Ok OtherChannels) = refl
took_there (Err r) = ap Err (refusal_there r)

pub signal_calls : SignalCalls
signal_calls = record {
  process = processes;
  seed = seeds;
  true_peak = λ rate source t. refused_by (peak_rows source) _ done;
  seed_true_peak = λ rate source t. refused_by (peak_rows source) _ done;
  fixed_process = λ call. fixes Kept said answer_back answer_there (given call) (processed call);
  fixed_seed = λ call. fixes Kept said answer_back answer_there (given call) (seeded call);
  fixed_true_peak = λ rate source t. fixes TruePeak said answer_back answer_there t (peak_processed rate source t);
  fixed_seed_true_peak = λ rate source t. fixes TruePeak said answer_back answer_there t (peak_seeded rate source t);
  frames = λ channels samples. refused_by (frame_rows channels samples) tt _;
  sample = λ channels samples channel frame. refused_by (frame_rows channels (length samples)) tt _;
  process_over = processes_over;
  seed_over = seeds_over;
  fixed_frames = λ channels samples. fixes Unit said answer_back answer_there tt (frames_in channels samples);
  fixed_sample = λ channels samples channel frame. fixes Unit sample_said sample_back sample_there tt (sample_in channels samples channel frame);
  fixed_process_over = λ channels call. fixes Kept said_of took_back took_there (given call) (over processed channels call);
  fixed_seed_over = λ channels call. fixes Kept said_of took_back took_there (given call) (over seeded channels call);
}
