-- What each case of a call's answer says, and what an answer of the call over the slice says among these.
use Rattle.std.specs.Prelude.{Result, Ok, Err}
use Rattle.base_refusals.specs.declared.Refusal.{Refusal}
use Rattle.base_refusals.specs.Refusal.{number}
use Rattle.base_refusals.specs.Outcome.{Said, says, refusal, NoValues}
use Rattle.interleaved_filter.specs.Over.{Taken, taken, other_channels}
use Rattle.interleaved_filter.specs.declared.Took.{Took}
use Rattle.interleaved_filter.specs.declared.Took.TheVariants.{Done, OtherChannels}

abbrev pub said_of : Result Took Refusal → Said Taken
said_of (Ok Done) = says taken
said_of (Ok OtherChannels) = says other_channels
said_of (Err r) = refusal (number r)

abbrev pub as_taken : Said NoValues → Said Taken
as_taken (says values) = says taken
as_taken (refusal n) = refusal n
