-- Nothing refuses the question over 1,000 counters alone, so what refuses a report is what refuses its record; and the figures of a report are in order.
-- Assumes nothing.
use mathlib.Core.Path.{◌≡◌, refl, sym, ap, subst, ◌∙◌}
use mathlib.Core.Bool.{Bool, true, false, cond}
use mathlib.Core.List.{List, [], ◌∷◌}
use Prim.Native.Nat.{ℕ, ◌+◌, ◌-◌, ◌≤◌}
use native.Mathlib.Omega.{arith}
use borrow.Author.Tests.{le-ltb}
use lib.ListN.{length, length-replicate}
use Rattle.base_refusals.specs.Outcome.{Outcome, went, refused, Question, answers, NoValues, done}
use Rattle.base_refusals.specs.Rows.{Row, by_rows}
use Rattle.bins.specs.Bin.{bins, bin_of}
use Rattle.history_histogram.specs.Histogram.{empty, sums}
use Rattle.history_set.specs.Set.{counters_at, any_outside, all_sound, all_show}
use Rattle.range_ranks.specs.Span.{Span, found, nothing, not_a_number}
use Rattle.range_histograms.specs.Counted.{added_to, blocks_in, counted_span}
use Rattle.range_histograms.proofs.Adding.{sums_length}
use Rattle.range.specs.Range.{queues_in, range_of}
use Rattle.record_layout.specs.declared.Model.TheVariants.{Ours}
use Rattle.record_layout.specs.declared.Kind.TheVariants.{Histogram}
use Rattle.record_layout.specs.Layout.{count_width, order_of, body_in, frame_rows}
use Rattle.base_refusals.proofs.Behind.{made_of}
use Rattle.record_layout.proofs.Runs.{numbers_length}
use Rattle.record_histogram.specs.Record.{counters_in}
use Rattle.record_histogram.proofs.Cases.{read_by_frame}
use Rattle.record_summary.specs.Summary.{Figures, ranged, rangeless, figures_by, alone, figures_of, figures_read, summary_of}
use Rattle.record_summary.proofs.Rising.{Rising, counted_rises}

-- ---- counters alone
-- their range: that of the counters added to none
abbrev pub span_of : List ℕ → Span
span_of counters = counted_span (sums empty (counters_at counters 0))

range_alone : (counters : List ℕ) → length counters ≡ bins → range_of (alone counters) [] ≡ went [] (span_of counters)
unfolding alone range_of any_outside all_sound all_show queues_in added_to
range_alone counters h = rw (le-ltb (length counters) bins (omega (arith, h)))

-- the figures of a span
abbrev pub figures_in : ℕ → Span → Figures
figures_in blocks (found low high) = ranged blocks (bin_of low) (bin_of high) (bin_of high - bin_of low)
figures_in blocks nothing = rangeless blocks
figures_in blocks not_a_number = rangeless blocks

by_span : (blocks : ℕ) (span : Span) → figures_by blocks (went [] span) ≡ answers (figures_in blocks span)
by_span blocks (found low high) = refl
by_span blocks nothing = refl
by_span blocks not_a_number = refl

pub figures_alone : (counters : List ℕ) → length counters ≡ bins → figures_of counters ≡ answers (figures_in (blocks_in counters) (span_of counters))
unfolding figures_of
figures_alone counters h = ap (figures_by (blocks_in counters)) (range_alone counters h) ∙ by_span (blocks_in counters) (span_of counters)

-- ---- a record's
empty_length : length empty ≡ bins
unfolding empty
empty_length = length-replicate {A = ℕ} bins 0

counters_length : (bytes : List ℕ) → length (counters_in Ours bytes) ≡ bins
unfolding counters_in
counters_length bytes = numbers_length (order_of (Histogram Ours)) count_width bins (body_in bytes)

-- the figures in a record that passes
abbrev pub figures_from : List ℕ → Figures
figures_from bytes = figures_in (blocks_in (counters_in Ours bytes)) (span_of (counters_in Ours bytes))

-- nothing but the record refuses the report
pub summary_is : (bytes : List ℕ) → summary_of bytes ≡ by_rows (frame_rows (Histogram Ours) bytes) (answers (figures_from bytes))
unfolding summary_of
summary_is bytes =
    let rows = frame_rows (Histogram Ours) bytes in
    let counters : Outcome (List ℕ) NoValues = went (counters_in Ours bytes) done in
    ap figures_read (read_by_frame Ours bytes empty empty_length)
    ∙ made_of figures_read (λ r. refl) rows counters
    ∙ ap (λ (o : Question Figures). by_rows rows o) (figures_alone (counters_in Ours bytes) (counters_length bytes))

-- ---- in order
-- the low bin is not above the high bin, and the range is how far they are apart
abbrev pub InOrder : Figures → Type 0
InOrder (ranged blocks low high range) = (low ≤ high) × (low + range ≡ high)
InOrder (rangeless blocks) = Unit

in_order_lem : (blocks : ℕ) (span : Span) → Rising span → InOrder (figures_in blocks span)
in_order_lem blocks (found low high) h = (h, omega (arith, h))
in_order_lem blocks nothing h = tt
in_order_lem blocks not_a_number h = tt

pub record_in_order : (bytes : List ℕ) → InOrder (figures_from bytes)
record_in_order bytes =
    in_order_lem (blocks_in (counters_in Ours bytes)) (span_of (counters_in Ours bytes))
    (counted_rises (sums empty (counters_at (counters_in Ours bytes) 0)) (sums_length empty (counters_at (counters_in Ours bytes) 0) ∙ empty_length))

out_of : (rows : List Row) (mine figures : Figures) → InOrder mine → by_rows rows (answers mine) ≡ answers figures → InOrder figures
out_of [] mine figures h e = let same : mine ≡ figures = cc in subst InOrder same h
out_of (row ∷ rest) mine figures h e = go row.holds e (out_of rest mine figures h)
  where
    go : (b : Bool) → cond b (refused row.refuses) (by_rows rest (answers mine)) ≡ answers figures
        → (by_rows rest (answers mine) ≡ answers figures → InOrder figures) → InOrder figures
    go true e later = let z : ◌≡◌ {A = ℕ} 0 1 = cc in absurd (omega arith)
    go false e later = later e

pub report_in_order : (bytes : List ℕ) (figures : Figures) → summary_of bytes ≡ answers figures → InOrder figures
report_in_order bytes figures e = out_of (frame_rows (Histogram Ours) bytes) (figures_from bytes) figures (record_in_order bytes) (sym (summary_is bytes) ∙ e)
