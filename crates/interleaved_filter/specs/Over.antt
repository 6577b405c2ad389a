-- A call of the filter over an `Interleaved`. The Rust asserts that the source has the filter's number of channels; 01 has no number for that, so it is a case of its own, which alters nothing.
use Rattle.std.specs.Prelude.{ℕ, cond, eqb}
use Rattle.base_refusals.specs.Outcome.{Outcome, went, refused, kept_by, NoValues}
use Rattle.filter.specs.Call.{Call, Kept, given}

-- what a call that is not refused answers
pub data Taken : Type 0 where
  taken : Taken
  other_channels : Taken

-- the call over the slice, its answer among these
abbrev pub whole : Outcome Kept NoValues → Outcome Kept Taken
whole (went kept values) = went kept taken
whole (refused r) = refused r

-- the call over a source of so many channels
abbrev pub over : (Call → Outcome Kept NoValues) → ℕ → Call → Outcome Kept Taken
over operation channels call = cond (eqb channels call.filter.channels) (whole (operation call)) (went (given call) other_channels)

-- what stands after it
abbrev pub left : (Call → Outcome Kept NoValues) → ℕ → Call → Kept
left operation channels call = kept_by (given call) (over operation channels call)
