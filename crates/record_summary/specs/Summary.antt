-- The figures of a report (01, 'Report program'): "Prints lines `blocks` (total), `low` and `high` (bins), `range` (high - low, tenths); for Nothing, `blocks`
-- and `range none`; else `refused` and the number."
use Rattle.std.specs.Prelude.{ℕ, ◌-◌, List, [], ◌∷◌, Float, Result, Ok, Err}
use Rattle.base_refusals.specs.declared.Refusal.{Refusal}
use Rattle.base_refusals.specs.Refusal.{number}
use Rattle.base_refusals.specs.Outcome.{Outcome, went, refused, Question, answers, NoValues, Said, says, refusal}
use Rattle.bins.specs.Bin.{bin_of}
use Rattle.history_set.specs.declared.set.Shape.TheVariants.{Histogram}
use Rattle.history_histogram.specs.Histogram.{empty}
use Rattle.history_set.specs.Set.{Histories, histories}
use Rattle.range.specs.Range.{Span, found, nothing, not_a_number, range_of}
use Rattle.range_histograms.specs.Counted.{blocks_in}
use Rattle.record_histogram.specs.Record.{read_histogram}
use Rattle.record_summary.specs.declared.Summary.{Summary}
use Rattle.record_summary.specs.declared.Summary.TheVariants.{Ranged, Rangeless}

-- the lines of a report: the total, the bins of the two energies and the range; or the total alone
pub data Figures : Type 0 where
  ranged : ℕ → ℕ → ℕ → ℕ → Figures
  rangeless : ℕ → Figures

-- what an answer says
abbrev pub said : Result Summary Refusal → Said Figures
said (Ok (Ranged blocks low high range)) = says (ranged blocks low high range)
said (Ok (Rangeless blocks)) = says (rangeless blocks)
said (Err r) = refusal (number r)

-- the bins of the range's energies, and how far they are apart. No histogram answers not-a-number
abbrev pub figures_by : ℕ → Outcome (List Float) Span → Question Figures
figures_by blocks (went work (found low high)) = answers (ranged blocks (bin_of low) (bin_of high) (bin_of high - bin_of low))
figures_by blocks (went work nothing) = answers (rangeless blocks)
figures_by blocks (went work not_a_number) = answers (rangeless blocks)
figures_by blocks (refused r) = refused r

-- a histogram as a set of one
unfoldable pub alone : List ℕ → Histories
alone counters = histories (record { shape = Histogram 0 } ∷ []) 1 counters []

-- the figures of a histogram, its range by the question over it alone
unfoldable pub figures_of : List ℕ → Question Figures
figures_of counters = figures_by (blocks_in counters) (range_of (alone counters) [])

-- the figures of what was read
abbrev pub figures_read : Outcome (List ℕ) NoValues → Question Figures
figures_read (went counters values) = figures_of counters
figures_read (refused r) = refused r

-- "reads one kind 1 record"
unfoldable pub summary_of : List ℕ → Question Figures
summary_of bytes = figures_read (read_histogram bytes empty)
