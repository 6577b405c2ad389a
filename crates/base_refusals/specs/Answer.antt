-- What an answer says: its value, or a refusal's number and nothing else.
use Rattle.std.specs.Prelude.{Result, Ok, Err}
use Rattle.base_refusals.specs.Refusal.{Refusal, number}
use Rattle.base_refusals.specs.Outcome.{Said, says, refusal}

abbrev pub said : {Values : Type 0} → Result Values Refusal → Said Values
said (Ok values) = says values
said (Err r) = refusal (number r)
