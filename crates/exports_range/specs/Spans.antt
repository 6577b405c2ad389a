-- How the C interface tells a range.
use Rattle.std.specs.Prelude.{ℕ, ◌+◌, cond, List, ltb, Float, length}
use Rattle.base_refusals.specs.Refusal.{number}
use Rattle.base_refusals.specs.declared.Refusal.TheVariants.{SET}
use Rattle.base_refusals.specs.Outcome.{Outcome, went, refused, Question, answers}
use Rattle.bins.specs.Bin.{bins}
use Rattle.history_set.specs.Set.{Histories}
use Rattle.range_one.specs.Counted.{span_at}
use Rattle.range.specs.Range.{Span, found, nothing, not_a_number, range_of}
use Rattle.exports_entries.specs.Sets.{asked}

-- the range of a set given as its numbers, over a work slice
abbrev pub range_asked : List ℕ → List ℕ → List Float → List Float → Outcome (List Float) Span
range_asked numbers counters energies work = asked (λ (h : Histories). range_of h work) numbers counters energies

-- that of one histogram, whose counters start at a place: SET where they do not end within the counters
abbrev pub histogram_at : List ℕ → ℕ → Question Span
histogram_at counters start = cond (ltb (length counters) (start + bins)) (refused SET) (answers (span_at counters start))

-- a range has two codes more, above those of the refusals
abbrev pub span_code : {Kept : Type 0} → Outcome Kept Span → ℕ
span_code (went kept (found low high)) = 0
span_code (went kept nothing) = 128
span_code (went kept not_a_number) = 129
span_code (refused r) = number r

-- its two energies, each through a pointer
abbrev pub low_or : {Kept : Type 0} → Float → Outcome Kept Span → Float
low_or old (went kept (found low high)) = low
low_or old (went kept nothing) = old
low_or old (went kept not_a_number) = old
low_or old (refused r) = old

abbrev pub high_or : {Kept : Type 0} → Float → Outcome Kept Span → Float
high_or old (went kept (found low high)) = high
high_or old (went kept nothing) = old
high_or old (went kept not_a_number) = old
high_or old (refused r) = old
