-- Demand 3 as the report tells it, proved: "The block total reported is the length of the list less the dropped energies". What is read is what was written,
-- and the report asks the range of the store alone. And what refuses a report is what refuses its record. Assumes nothing.
use mathlib.Core.Path.{◌≡◌, refl, sym, ap, subst, ◌∙◌}
use mathlib.Core.Bool.{Bool, true, false}
use mathlib.Core.List.{List, [], ◌∷◌}
use Prim.Native.Nat.{ℕ, ◌-◌, ◌<◌, ◌^◌}
use native.Mathlib.Omega.{arith}
use borrow.Author.Tests.{leb-true, leb-false}
use lib.Dec.{leb}
use lib.ListN.{length, get_or, length-replicate, get_or-eq_default}
use lib.Seq.{take_all}
use lib.Ieee.{Float}
use Rattle.base_refusals.specs.Outcome.{Question, went}
use Rattle.base_refusals.specs.Rows.{RefusedBy}
use Rattle.base_refusals.proofs.Rows.{refused_by}
use Rattle.bins.specs.Bin.{bins}
use Rattle.history_histogram.specs.Histogram.{empty}
use Rattle.range.specs.Range.{range_of}
use Rattle.record_layout.specs.declared.Model.TheVariants.{Ours}
use Rattle.record_layout.specs.declared.Kind.TheVariants.{Histogram}
use Rattle.record_layout.specs.Layout.{frame_rows}
use Rattle.record_histogram.specs.Writing.{histogram_record}
use Rattle.record_histogram.proofs.Again.{Counting, read_what_was_written}
use Rattle.record_summary.specs.Summary.{Figures, alone, figures_by, figures_of, figures_read, summary_of}
use Rattle.record_summary.proofs.Alone.{figures_from, summary_is}
use Rattle.acceptance_dealing.specs.Dealing.{Plan, Dealt, store_of, dropped_of, Asks, range_of_bins, Met}
use Rattle.acceptance_dealing.proofs.Dealing.{demand_3}
use Rattle.acceptance_records.specs.Report.{ReportTells, ReportRefused}

empty_length : length empty ≡ bins
unfolding empty
empty_length = length-replicate {A = ℕ} bins 0

-- the report's question asks over the store
asks_alone : (store : List ℕ) → length store ≡ bins → Asks (store ∷ []) (alone store)
unfolding alone
asks_alone store whole =
    record { number = refl; entered = (record { start = 0; shape = refl; inside = omega (arith, whole); holds = take_all bins store (omega (arith, whole)) }, tt) }

module _ (whole : List Float) (dealt : List (List Float)) (plan : Plan) (d : Dealt whole dealt plan) (m : Met whole dealt plan) where
  counters_fit : Counting (store_of plan)
  counters_fit bin = go (leb bins bin) refl
    where
      go : (b : Bool) → leb bins bin ≡ b → get_or (store_of plan) bin 0 < 2 ^ 32
      go true e = omega (arith, get_or-eq_default (store_of plan) 0 {n = bin} (omega (arith, m.thousand, leb-true bins bin e)))
      go false e = let inside : bin < bins = leb-false bins bin e in omega (arith, m.counting bin inside, d.fits bin inside)

  tells : summary_of (histogram_record (store_of plan)) ≡ figures_by (length whole - length (dropped_of whole)) (went [] (range_of_bins whole))
  unfolding summary_of figures_of
  tells =
      ap figures_read (read_what_was_written Ours (store_of plan) m.thousand counters_fit empty empty_length)
      ∙ ap (λ (n : ℕ). figures_by n (range_of (alone (store_of plan)) [])) m.blocks
      ∙ ap (figures_by (length whole - length (dropped_of whole))) (m.range_merged (alone (store_of plan)) [] (asks_alone (store_of plan) m.thousand))

pub report_tells : ReportTells
report_tells whole dealt plan d = tells whole dealt plan d (demand_3 whole dealt plan d)

pub report_refused : ReportRefused
report_refused bytes =
    let rows = frame_rows (Histogram Ours) bytes in
    subst (λ (call : Question Figures). RefusedBy rows call) (sym (summary_is bytes)) (refused_by rows tt (figures_from bytes))
