-- What each case of a sample's answer says.
use Rattle.std.specs.Prelude.{Result, Ok, Err, Option, Some, None, Float}
use Rattle.base_refusals.specs.declared.Refusal.{Refusal}
use Rattle.base_refusals.specs.Refusal.{number}
use Rattle.base_refusals.specs.Outcome.{Said, says, refusal}
use Rattle.interleaved_slices.specs.Shown.{Place, at, past_the_end}

abbrev pub sample_said : Result (Option Float) Refusal → Said Place
sample_said (Ok (Some x)) = says (at x)
sample_said (Ok None) = says past_the_end
sample_said (Err r) = refusal (number r)
