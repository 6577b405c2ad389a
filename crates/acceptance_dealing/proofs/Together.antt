-- The set question over histograms, wherever they stand in the lent counters: nothing refuses it, it shows each store, and its range is that of their counters added up.
-- Assumes nothing.
use mathlib.Core.Path.{◌≡◌, refl, ap, ◌∙◌}
use mathlib.Core.Bool.{true, false}
use mathlib.Core.List.{List, [], ◌∷◌}
use Prim.Native.Nat.{ℕ, suc, ◌+◌, ◌≤◌}
use native.Mathlib.Omega.{arith}
use borrow.Author.Tests.{le-ltb}
use lib.ListN.{length}
use lib.Ieee.{Float}
use Rattle.base_refusals.specs.Outcome.{went}
use Rattle.bins.specs.Bin.{bins}
use Rattle.history_histogram.specs.Histogram.{empty}
use Rattle.base_refusals.specs.Rows.{number_of}
use Rattle.history_set.specs.declared.set.Entry.{Entry}
use Rattle.history_set.specs.Set.{most_histories, History, counted, Histories, chosen, all_show, histories_of, any_outside, all_sound, set_rows}
use Rattle.history_set.proofs.Rows.{all_well, not_too_many}
use Rattle.range_histograms.specs.Counted.{added_to, counted_span}
use Rattle.range.specs.Range.{queues_in, range_of}
use Rattle.range.proofs.Answers.{range_counted}
use Rattle.acceptance_dealing.specs.Dealing.{count_in, tally, counters_of, in_one_run, AllStand, Asks}
use Rattle.acceptance_dealing.proofs.Tallies.{tally_empty, tally_sums, tally_same}
use Rattle.acceptance_dealing.proofs.Counts.{count_append}

-- the stores of parts, by what they count
abbrev pub counts : List (List Float) → List (List ℕ)
counts [] = []
counts (part ∷ rest) = counters_of part ∷ counts rest

abbrev each : List (List Float) → List History
each [] = []
each (part ∷ rest) = counted (counters_of part) ∷ each rest

pub counts_length : (parts : List (List Float)) → length (counts parts) ≡ length parts
counts_length [] = refl
counts_length (part ∷ rest) = ap suc (counts_length rest)

-- ---- what the entries show, and that nothing refuses them
module _ (lent : List ℕ) (energies : List Float) where
  shown : (parts : List (List Float)) (entries : List Entry) → AllStand lent entries (counts parts) → all_show lent energies entries ≡ each parts
  unfolding all_show
  shown [] [] s = refl
  shown [] (entry ∷ entries) s = absurd s
  shown (part ∷ rest) [] s = absurd s
  shown (part ∷ rest) (entry ∷ entries) s = rw (s.0.shape, s.0.holds, shown rest entries s.1)

  none_outside : (parts : List (List Float)) (entries : List Entry) → AllStand lent entries (counts parts) → any_outside (length lent) (length energies) entries ≡ false
  unfolding any_outside
  none_outside [] [] s = refl
  none_outside [] (entry ∷ entries) s = absurd s
  none_outside (part ∷ rest) [] s = absurd s
  none_outside (part ∷ rest) (entry ∷ entries) s =
      rw (s.0.shape, le-ltb (length lent) (s.0.start + bins) s.0.inside, le-ltb (length energies) 0 (omega arith), none_outside rest entries s.1)

  all_sound_lem : (parts : List (List Float)) (entries : List Entry) → AllStand lent entries (counts parts) → all_sound energies entries ≡ true
  unfolding all_sound
  all_sound_lem [] [] s = refl
  all_sound_lem [] (entry ∷ entries) s = absurd s
  all_sound_lem (part ∷ rest) [] s = absurd s
  all_sound_lem (part ∷ rest) (entry ∷ entries) s = rw (s.0.shape, all_sound_lem rest entries s.1)

no_queues : (parts : List (List Float)) → queues_in (each parts) ≡ 0
unfolding queues_in
no_queues [] = refl
no_queues (part ∷ rest) = omega (arith, no_queues rest)

-- ---- counters added up
added : (parts : List (List Float)) (f : ℕ → ℕ) → added_to (tally f) (each parts) ≡ tally (λ i. f i + count_in i (in_one_run parts))
unfolding added_to
added [] f = tally_same f (λ i. f i + 0) (λ i k. omega arith)
added (part ∷ rest) f =
    ap (λ (l : List ℕ). added_to l (each rest)) (tally_sums f (λ i. count_in i part))
    ∙ added rest (λ i. f i + count_in i part)
    ∙ tally_same (λ i. f i + count_in i part + count_in i (in_one_run rest)) (λ i. f i + count_in i (in_one_run (part ∷ rest)))
    (λ i k. omega (arith, count_append i part (in_one_run rest)))

added_empty : (parts : List (List Float)) → added_to empty (each parts) ≡ counters_of (in_one_run parts)
added_empty parts =
    ap (λ (l : List ℕ). added_to l (each parts)) tally_empty
    ∙ added parts (λ i. 0)
    ∙ tally_same (λ i. 0 + count_in i (in_one_run parts)) (λ i. count_in i (in_one_run parts)) (λ i k. omega arith)

-- ---- the question
module _ (parts : List (List Float)) (few : length parts ≤ most_histories) (question : Histories) (asks : Asks (counts parts) question) where
  not_refused : number_of (set_rows question) ≡ 0
  not_refused =
      all_well question
      (not_too_many question (omega (arith, asks.number, counts_length parts))
      ∙ none_outside question.counters question.energies parts (chosen question) asks.entered)
      (all_sound_lem question.counters question.energies parts (chosen question) asks.entered)

  shows_each : histories_of question ≡ each parts
  shows_each = shown question.counters question.energies parts (chosen question) asks.entered

  pub range_together : (work : List Float) → range_of question work ≡ went work (counted_span (counters_of (in_one_run parts)))
  range_together work =
      range_counted question work (ap queues_in shows_each ∙ no_queues parts) not_refused
      ∙ ap (λ (l : List History). went work (counted_span (added_to empty l))) shows_each
      ∙ ap (λ (l : List ℕ). went work (counted_span l)) (added_empty parts)
