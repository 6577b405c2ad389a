-- What the range over a set comes to, by how many of its histories are queues. Each law settles the tests of its rows. Assumes nothing.
use mathlib.Core.Path.{◌≡◌, refl, sym, ap, ◌∙◌}
use mathlib.Core.List.{List, [], ◌∷◌}
use Prim.Native.Nat.{ℕ, suc, ◌+◌, ◌≤◌, ◌<◌}
use borrow.Author.Tests.{eq-eqb, ne_eqb}
use lib.ListN.{length, get_or, drop}
use lib.Ieee.{Float}
use Rattle.base_refusals.specs.declared.Refusal.TheVariants.{MODE}
use Rattle.base_refusals.specs.Outcome.{Outcome, went, refused, answers, Said, said_by, kept_by}
use Rattle.base_refusals.specs.Rows.{by_rows, number_of}
use Rattle.base_refusals.proofs.Rows.{Refuses, goes, rows_then}
use Rattle.base_refusals.proofs.Behind.{stopped_first, goes_on, stays, through}
use Rattle.history_histogram.specs.Histogram.{empty}
use Rattle.history_set.specs.declared.set.Entry.{Entry}
use Rattle.history_set.specs.Set.{History, Histories, histories_of, shows, all_show, set_rows}
use Rattle.history_set.proofs.Entries.{past_the_last, shows_next, shows_end}
use Rattle.range_ranks.specs.Span.{Span}
use Rattle.range_histograms.specs.Counted.{added_to, counted_span, histogram_range}
use Rattle.range_queues.specs.Listed.{all_held, placed_in, held_span, room_row, queue_range}
use Rattle.range.specs.Range.{queues_by, queues_in, work_after, span_over, mode_rows, range_of}

-- ---- how many are queues
module _ (counters : List ℕ) (energies : List Float) (l : List Entry) (i : ℕ) where
  pub queues_next : i < length l
      → queues_in (all_show counters energies (drop i l))
      ≡ queues_by (shows counters energies (get_or l i past_the_last)) + queues_in (all_show counters energies (drop (i + 1) l))
  unfolding queues_in
  queues_next h = ap queues_in (shows_next counters energies l i h)

  pub queues_end : length l ≤ i → queues_in (all_show counters energies (drop i l)) ≡ 0
  unfolding queues_in
  queues_end h = ap queues_in (shows_end counters energies l i h)

-- as many as entries
pub shown_length : (counters : List ℕ) (energies : List Float) (l : List Entry) → length (all_show counters energies l) ≡ length l
unfolding all_show
shown_length counters energies [] = refl
shown_length counters energies (entry ∷ l) = ap suc (shown_length counters energies l)

-- ---- the question
module _ (h : Histories) (work : List Float) where
  abbrev shown : List History
  shown = histories_of h

  abbrev outcome : Outcome (List Float) Span
  outcome = went (work_after work shown) (span_over shown)

  pub range_refused : (n : ℕ) → n ≡ number_of (set_rows h) → (n ≡ 0 → ⊥) → Refuses (range_of h work) work n
  unfolding range_of
  range_refused n e p = stopped_first outcome (set_rows h) (mode_rows work shown) work n e p

  -- histograms: the work slice stays
  module _ (only : queues_in shown ≡ 0) where
    over_histograms : range_of h work ≡ by_rows (set_rows h) (went work (counted_span (added_to empty shown)))
    unfolding range_of
    over_histograms = rows_then outcome (set_rows h) (mode_rows work shown) ∙ rw (eq-eqb (queues_in shown) 0 only) refl

    pub range_histograms : (said_by (histogram_range h) ≡ said_by (range_of h work)) × (work ≡ kept_by work (range_of h work))
    unfolding histogram_range
    range_histograms =
        let span = counted_span (added_to empty shown) in
        rw over_histograms (through (λ (s : Said Span). s) (λ n. refl) (set_rows h) (answers span) (went work span) refl, stays (set_rows h) work span)

    pub range_counted : number_of (set_rows h) ≡ 0 → range_of h work ≡ went work (counted_span (added_to empty shown))
    range_counted e = over_histograms ∙ goes (went work (counted_span (added_to empty shown))) (set_rows h) e

  module _ (some : queues_in shown ≡ 0 → ⊥) where
    pub range_queues : queues_in shown ≡ length shown → range_of h work ≡ queue_range h work
    unfolding range_of queue_range
    range_queues e =
        let held = all_held shown in
        rows_then outcome (set_rows h) (mode_rows work shown)
        ∙ rw (ne_eqb (queues_in shown) 0 some, eq-eqb (queues_in shown) (length shown) e)
        (sym (rows_then (went (placed_in work held) (held_span held)) (set_rows h) (room_row work held ∷ [])))

    pub range_mixed : (queues_in shown ≡ length shown → ⊥) → number_of (set_rows h) ≡ 0 → range_of h work ≡ refused MODE
    unfolding range_of
    range_mixed z e =
        goes_on outcome (set_rows h) (mode_rows work shown) e ∙ rw (ne_eqb (queues_in shown) 0 some, ne_eqb (queues_in shown) (length shown) z) refl
