-- A set of one histogram: SET where its counters do not end within those lent, and else their range as they stand. Assumes nothing.
use mathlib.Core.Path.{◌≡◌, refl, sym, ap, subst, ◌∙◌}
use mathlib.Core.Bool.{Bool, true, false, cond, or-false}
use mathlib.Core.List.{List, ◌∷◌}
use Prim.Native.Nat.{ℕ, ◌+◌, ◌/◌}
use borrow.Author.Tests.{le-ltb, ltb-false}
use native.Mathlib.Omega.{arith}
use lib.Dec.{ltb}
use lib.Ieee.{Float}
use lib.ListN.{length}
use Rattle.base_refusals.specs.Refusal.{number}
use Rattle.base_refusals.specs.declared.Refusal.TheVariants.{SET}
use Rattle.base_refusals.specs.Outcome.{went, refused, answers, said_by, kept_by}
use Rattle.base_refusals.proofs.Numbers.{no_number}
use Rattle.bins.specs.Bin.{bins}
use Rattle.history_histogram.specs.Histogram.{empty, sums}
use Rattle.history_set.specs.declared.set.Entry.{Entry}
use Rattle.history_set.specs.declared.set.Shape.{Shape}
use Rattle.history_set.specs.declared.set.Shape.TheVariants.{Histogram}
use Rattle.history_set.specs.Set.{most_histories, Histories, histories, histories_of, chosen, is_outside, outside_set, any_outside, all_sound, all_show, counters_at}
use Rattle.history_set.proofs.Rows.{set_refused, all_well}
use Rattle.range_one.specs.Counted.{span_at}
use Rattle.range_one.proofs.Answers.{span_there}
use Rattle.range_histograms.specs.Counted.{added_to, counted_span}
use Rattle.range_histograms.proofs.Single.{counters_alone}
use Rattle.range.specs.Range.{Span, queues_in, range_of}
use Rattle.range.proofs.Answers.{range_refused, range_counted}
use Rattle.exports_entries.specs.Sets.{numbers_an_entry, entry_at, entries_from, set_of}
use Rattle.exports_range.specs.Spans.{histogram_at}

histogram_outside : (counters energies : ℕ) (entry : Entry) (start : ℕ) → entry.shape ≡ Histogram start
    → is_outside counters energies entry ≡ ltb counters (start + bins)
histogram_outside counters energies entry start e = rw (e, le-ltb energies 0 (omega arith)) (or-false (ltb counters (start + bins)))

module _ (rest : List Entry) (counters : List ℕ) (energies work : List Float) (start : ℕ) where
  abbrev one : Histories
  one = histories (record { shape = Histogram start } ∷ rest) 1 counters energies

  outside : ltb (length counters) (start + bins) ≡ true → outside_set one ≡ true
  unfolding any_outside
  outside e = rw (histogram_outside (length counters) (length energies) (record { shape = Histogram start }) start refl ∙ e) refl

  inside : ltb (length counters) (start + bins) ≡ false → outside_set one ≡ false
  unfolding any_outside
  inside e = rw (histogram_outside (length counters) (length energies) (record { shape = Histogram start }) start refl ∙ e) refl

  sound_store : all_sound energies (chosen one) ≡ true
  unfolding all_sound
  sound_store = refl

  no_queue : queues_in (histories_of one) ≡ 0
  unfolding queues_in all_show
  no_queue = refl

  added : added_to empty (histories_of one) ≡ sums empty (counters_at counters start)
  unfolding added_to all_show
  added = refl

  answered : ltb (length counters) (start + bins) ≡ false → range_of one work ≡ went work (span_at counters start)
  answered e =
      let ends = ltb-false (length counters) (start + bins) e in
      range_counted one work no_queue (all_well one (inside e) sound_store)
      ∙ ap (λ (l : List ℕ). went work (counted_span l)) (added ∙ sym (counters_alone counters start ends))
      ∙ ap (λ (s : Span). went work s) (sym (span_there counters start ends))

  one_histogram : (said_by (histogram_at counters start) ≡ said_by (range_of one work)) × (work ≡ kept_by work (range_of one work))
  one_histogram = go (ltb (length counters) (start + bins)) refl
    where
      go : (past : Bool) → ltb (length counters) (start + bins) ≡ past
          → (said_by (cond past (refused SET) (answers (span_at counters start))) ≡ said_by (range_of one work)) × (work ≡ kept_by work (range_of one work))
      go true e = let r = range_refused one work (number SET) (sym (set_refused one (outside e))) (no_number SET) in (r.says, r.keeps)
      go false e = rw (answered e) (refl, refl)

-- five numbers are one entry
one_entry : (numbers counters : List ℕ) (energies : List Float) (entry : Entry) → length numbers ≡ numbers_an_entry → entry ≡ entry_at numbers 0
    → histories (entry ∷ entries_from numbers 5 15) 1 counters energies ≡ set_of numbers counters energies
unfolding entries_from
one_entry numbers counters energies entry long is =
    ap (λ (e : Entry). histories (e ∷ entries_from numbers 5 15) 1 counters energies) is
    ∙ ap (λ (n : ℕ). histories (entries_from numbers 0 most_histories) (n / numbers_an_entry) counters energies) (sym long)

pub histogram_alone : (numbers counters : List ℕ) (energies work : List Float) (entry : Entry) (start : ℕ)
    → length numbers ≡ numbers_an_entry → entry ≡ entry_at numbers 0 → entry.shape ≡ Histogram start
    → (said_by (histogram_at counters start) ≡ said_by (range_of (set_of numbers counters energies) work)) × (work ≡ kept_by work (range_of (set_of numbers counters energies) work))
histogram_alone numbers counters energies work entry start long is shape =
    let first = sym (ap {B = Entry} (λ (s : Shape). record { shape = s }) shape) ∙ is in
    subst (λ (h : Histories). (said_by (histogram_at counters start) ≡ said_by (range_of h work)) × (work ≡ kept_by work (range_of h work)))
    (one_entry numbers counters energies (record { shape = Histogram start }) long first)
    (one_histogram (entries_from numbers 5 15) counters energies work start)
