-- Demand 3 as the report tells it: "The block total reported is the length of the list less the dropped energies", and "a build reporting an invented block total
-- fails demand 3" (01). Of a list that was dealt, filled and merged as demand 3 has it, the record of the merged store is written and the report is asked.
-- And what refuses a report is what refuses its record, by the record's own rows and in their order: the range asked over the counters is never refused.
-- proofs/Report.antt proves `ReportTells` and `ReportRefused`.
use Rattle.std.specs.Prelude.{◌≡◌, List, [], ℕ, ◌-◌, length, Float}
use Rattle.base_refusals.specs.Outcome.{went}
use Rattle.base_refusals.specs.Rows.{RefusedBy}
use Rattle.record_layout.specs.declared.Model.TheVariants.{Ours}
use Rattle.record_layout.specs.declared.Kind.TheVariants.{Histogram}
use Rattle.record_layout.specs.Layout.{frame_rows}
use Rattle.record_histogram.specs.Writing.{histogram_record}
use Rattle.record_summary.specs.Summary.{figures_by, summary_of}
use Rattle.acceptance_dealing.specs.Dealing.{Plan, Dealt, store_of, dropped_of, range_of_bins}

abbrev pub ReportTells : Type 0
ReportTells = (whole : List Float) (dealt : List (List Float)) (plan : Plan) → Dealt whole dealt plan
    → summary_of (histogram_record (store_of plan)) ≡ figures_by (length whole - length (dropped_of whole)) (went [] (range_of_bins whole))

abbrev pub ReportRefused : Type 0
ReportRefused = (bytes : List ℕ) → RefusedBy (frame_rows (Histogram Ours) bytes) (summary_of bytes)
