-- What the inner functions work with: the code and the value of what was said. No public contract rests on it.
use Rattle.std.specs.Prelude.{ℕ}
use Rattle.base_refusals.specs.Outcome.{Said, says, refusal}

abbrev pub code_said : {Values : Type 0} → Said Values → ℕ
code_said (says values) = 0
code_said (refusal n) = n

abbrev pub value_said : {Values : Type 0} → Values → Said Values → Values
value_said old (says values) = values
value_said old (refusal n) = old
