-- Each statement fixes its outcome, proved: "Two outcomes that satisfy a statement are proved the same". What an answer says has a way back to the answer, so that two
-- answers that say the same are the same; what is kept is told by an equation. Assumes nothing.
use Rattle.std.proofs.Common.{◌≡◌, ℕ, List, Float, cond, eqb, refl, sym, ap, ◌∙◌}
use Rattle.std.specs.Prelude.{Result, Ok, Err}
use Rattle.base_refusals.specs.Refusal.{number}
use Rattle.base_refusals.specs.declared.Refusal.{Refusal}
use Rattle.base_refusals.specs.declared.Refusal.TheVariants.{CHANNELS, SAMPLES, MAP, DEST, STORE, FULL, SET, MODE, NONE, NAN, SCALE, LENGTH, KIND, CONTENT, ROOM}
use Rattle.base_refusals.specs.Outcome.{Said, says, refusal}
use Rattle.base_refusals.specs.Answer.{said}
use Rattle.bins.specs.Reading.{reading_of}
use Rattle.history_histogram.specs.Histogram.{add_to, cleared}
use Rattle.history_histogram.specs.Merge.{merge_into}
use Rattle.history_queue.specs.Adding.{enqueued}
use Rattle.history_queue.specs.Queue.{Stored}
use Rattle.gate.specs.declared.threshold.Threshold.{Threshold}
use Rattle.gate.specs.declared.threshold.Threshold.TheVariants.{Loudness, Energy}
use Rattle.gate.specs.Gate.{gate_of}
use Rattle.gate.specs.GatedEnergy.{gated_energy_of}
use Rattle.gate.specs.Relative.{Limit, loudness, energy as energy_case, relative_of, said as said_threshold}
use Rattle.range_ranks.specs.declared.spans.Span.{Span as SpanAnswer}
use Rattle.range_ranks.specs.declared.spans.Span.TheVariants.{Found, Nothing, NotANumber, Refused}
use Rattle.range_ranks.specs.Span.{Span, found, nothing, not_a_number}
use Rattle.range_ranks.specs.Span.{said as said_range}
use Rattle.range_histograms.specs.Counted.{histogram_range}
use Rattle.range_queues.specs.Listed.{queue_range}
use Rattle.range.specs.Range.{range_of}
use Rattle.acceptance_outcomes.specs.Fixed.{Fixes, EachFixed}

-- where there is a way back from what is said, a statement fixes its outcome
pub fixes : {Answer Values : Type 0} (Kept : Type 0) (said : Answer → Said Values) (back : Said Values → Answer) → ((a : Answer) → back (said a) ≡ a) → Fixes Kept said
fixes Kept said back there given call answer other kept otherwise m n =
    (sym (there answer) ∙ ap back (m.answered ∙ sym n.answered) ∙ there other, m.standing ∙ sym n.standing)

-- ---- the ways back
-- a refusal by its number
pub refusal_of : ℕ → Refusal
refusal_of n =
    cond (eqb n 1) CHANNELS (cond (eqb n 2) SAMPLES (cond (eqb n 3) MAP (cond (eqb n 4) DEST (cond (eqb n 5) STORE
    (cond (eqb n 6) FULL (cond (eqb n 7) SET (cond (eqb n 8) MODE (cond (eqb n 9) NONE (cond (eqb n 10) NAN
    (cond (eqb n 11) SCALE (cond (eqb n 12) LENGTH (cond (eqb n 13) KIND (cond (eqb n 14) CONTENT ROOM)))))))))))))

pub refusal_there : (r : Refusal) → refusal_of (number r) ≡ r
unfolding refusal_of
refusal_there CHANNELS = refl
refusal_there SAMPLES = refl
refusal_there MAP = refl
refusal_there DEST = refl
refusal_there STORE = refl
refusal_there FULL = refl
refusal_there SET = refl
refusal_there MODE = refl
refusal_there NONE = refl
refusal_there NAN = refl
refusal_there SCALE = refl
refusal_there LENGTH = refl
refusal_there KIND = refl
refusal_there CONTENT = refl
refusal_there ROOM = refl

pub answer_back : {Values : Type 0} → Said Values → Result Values Refusal
answer_back (says values) = Ok values
answer_back (refusal n) = Err (refusal_of n)

pub answer_there : {Values : Type 0} → (a : Result Values Refusal) → answer_back (said a) ≡ a
unfolding answer_back
answer_there (Ok values) = refl
answer_there (Err r) = ap Err (refusal_there r)

threshold_back : Said Limit → Result Threshold Refusal
threshold_back (says (loudness l)) = Ok (Loudness l)
threshold_back (says (energy_case e)) = Ok (Energy e)
threshold_back (refusal n) = Err (refusal_of n)

threshold_there : (a : Result Threshold Refusal) → threshold_back (said_threshold a) ≡ a
unfolding threshold_back
threshold_there (Ok (Loudness l)) = refl
threshold_there (Ok (Energy e)) = refl
threshold_there (Err r) = ap Err (refusal_there r)

range_back : Said Span → SpanAnswer
range_back (says (found low high)) = Found low high
range_back (says nothing) = Nothing
range_back (says not_a_number) = NotANumber
range_back (refusal n) = Refused (refusal_of n)

range_there : (a : SpanAnswer) → range_back (said_range a) ≡ a
unfolding range_back
range_there (Found low high) = refl
range_there Nothing = refl
range_there NotANumber = refl
range_there (Refused r) = ap Refused (refusal_there r)

pub each_fixed : EachFixed
each_fixed = record {
  reading = λ energy. fixes Unit said answer_back answer_there tt (reading_of energy);
  histogram_add = λ counters energy. fixes (List ℕ) said answer_back answer_there counters (add_to counters energy);
  histogram_merge = λ into from. fixes (List ℕ) said answer_back answer_there into (merge_into into from);
  histogram_reset = λ counters. fixes (List ℕ) said answer_back answer_there counters (cleared counters);
  queue_add = λ s energy. fixes Stored said answer_back answer_there s (enqueued s energy);
  gate = λ h. fixes Unit said answer_back answer_there tt (gate_of h);
  gated_energy = λ h. fixes Unit said answer_back answer_there tt (gated_energy_of h);
  relative_threshold = λ entry counters energies. fixes Unit said_threshold threshold_back threshold_there tt (relative_of entry counters energies);
  loudness_range = λ h work. fixes (List Float) said_range range_back range_there work (range_of h work);
  range_of_histograms = λ h. fixes Unit said_range range_back range_there tt (histogram_range h);
  range_of_queues = λ h work. fixes (List Float) said_range range_back range_there work (queue_range h work);
}
