-- Demand 2, the range: "ITU-R BS.1770 and EBU Tech 3342 decide the meaning of gating and range." `loudness_range` is Tech 3342's over blocks: its two gates, then its
-- two percentiles; Tech3342.antt says what it rests on. Departures: blocks at a gate are kept; a histogram's block stands at the energy of
-- its bin, and the mean of its gate is from count times energy, bins upward (`bins_gate`). proofs/Range.antt proves `RangeIsTech3342`.
use Rattle.std.specs.Prelude.{ℕ, ◌≤◌, ◌≡◌, true, false, List, ◌++◌, length, drop, Float}
use Rattle.base_refusals.specs.Outcome.{went}
use Rattle.history_histogram.specs.Histogram.{empty}
use Rattle.base_refusals.specs.Rows.{number_of}
use Rattle.history_set.specs.Set.{Histories, histories_of, set_rows}
use Rattle.order_rules.specs.Order.{in_order}
use Rattle.range_histograms.specs.Counted.{added_to}
use Rattle.range_queues.specs.Listed.{all_held, any_nan}
use Rattle.range.specs.Range.{queues_in, range_of}
use Rattle.acceptance_meaning.specs.Levels.{absolute_gate, twenty_lu_below}
use Rattle.acceptance_meaning.specs.Bs1770.{in_one_run, mean_of, no_blocks, bins_through, Feed, material_of}
use Rattle.acceptance_meaning.specs.Gate.{Fed}
use Rattle.acceptance_meaning.specs.Tech3342.{gated, loudness_range, range_above, blocks_from}

-- the question asks over queues only: one or more, none of them NaN's, and the work slice has room for what they hold
pub record OverQueues (question : Histories) (work : List Float) : Type 0 where
  pub whole : number_of (set_rows question) ≡ 0
  pub some : queues_in (histories_of question) ≡ 0 → ⊥
  pub only : queues_in (histories_of question) ≡ length (histories_of question)
  pub room : length (all_held (histories_of question)) ≤ length work
  pub numbers : any_nan (all_held (histories_of question)) ≡ false

-- or over histograms only, or no history at all
pub record OverHistograms (question : Histories) : Type 0 where
  pub whole : number_of (set_rows question) ≡ 0
  pub only : queues_in (histories_of question) ≡ 0

-- the counters of all histograms, and the gate that is worked from them: 20 LU below the mean, where the blocks of a bin are added at once, count times energy
abbrev pub added : Histories → List ℕ
added question = added_to empty (histories_of question)

abbrev pub bins_gate : List ℕ → Float
bins_gate counters = twenty_lu_below (mean_of (bins_through (λ energy. true) no_blocks 0 counters))

-- the question asks over queues, one or more, each filled from its own part of the material, no block of which is NaN, and the work slice has room for what they take
pub record FedQueues (feeds : List Feed) (question : Histories) (work : List Float) : Type 0 where
  pub fed : Fed feeds question
  pub some : length feeds ≡ 0 → ⊥
  pub room : length (gated absolute_gate (in_one_run (material_of feeds))) ≤ length work
  pub numbers : any_nan (in_one_run (material_of feeds)) ≡ false

pub record RangeIsTech3342 : Type 0 where
  pub queues : (question : Histories) (work : List Float) → OverQueues question work →
      let held = all_held (histories_of question) in
      range_of question work ≡ went (in_order held ++ drop (length held) work) (loudness_range held)
  -- over the material that filled the queues, with both gates
  pub fed : (feeds : List Feed) (question : Histories) (work : List Float) → FedQueues feeds question work →
      let material = in_one_run (material_of feeds) in
      let taken = gated absolute_gate material in
      range_of question work ≡ went (in_order taken ++ drop (length taken) work) (loudness_range material)
  pub histograms : (question : Histories) (work : List Float) → OverHistograms question
      → range_of question work ≡ went work (range_above (bins_gate (added question)) (blocks_from 0 (added question)))
