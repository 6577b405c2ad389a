-- How the C interface tells an outcome: its result is 0, or the refusal's number; a value goes through a pointer, and a refusal leaves there what was there.
use Rattle.std.specs.Prelude.{ℕ, Result, Ok, Err}
use Rattle.base_refusals.specs.Refusal.{Refusal, number}
use Rattle.base_refusals.specs.Outcome.{Outcome, went, refused}

abbrev pub code : {Kept Values : Type 0} → Outcome Kept Values → ℕ
code (went kept values) = 0
code (refused r) = number r

abbrev pub value_or : {Kept Values : Type 0} → Values → Outcome Kept Values → Values
value_or old (went kept values) = values
value_or old (refused r) = old

-- the same of an answer
abbrev pub number_said : {Values : Type 0} → Result Values Refusal → ℕ
number_said (Ok values) = 0
number_said (Err r) = number r
