-- What a call of an operation comes to, and what is read off it: the answer, and what lent memory and states hold afterwards.
-- "A refusal answers its number only. Lent memory and states passed by value come back as given." So `said_by` and `kept_by` say it, for every operation at once.
use Rattle.std.specs.Prelude.{ℕ}
use Rattle.base_refusals.specs.Refusal.{Refusal, number}

-- the operation went, leaves `Kept` in what it was lent, and answers `Values`; or it is refused
pub data Outcome (Kept Values : Type 0) : Type 0 where
  went : Kept → Values → Outcome Kept Values
  refused : Refusal → Outcome Kept Values

-- what an answer says: values, or a refusal's number and nothing else
pub data Said (Values : Type 0) : Type 0 where
  says : Values → Said Values
  refusal : ℕ → Said Values

-- an answer without values
abbrev pub NoValues : Type 0
NoValues = Unit

abbrev pub done : NoValues
done = tt

abbrev pub said_by : {Kept Values : Type 0} → Outcome Kept Values → Said Values
said_by (went kept values) = says values
said_by (refused r) = refusal (number r)

-- what stands afterwards where `old` stood before
abbrev pub kept_by : {Kept Values : Type 0} → Kept → Outcome Kept Values → Kept
kept_by old (went kept values) = kept
kept_by old (refused r) = old

-- a question keeps nothing: it only answers
abbrev pub Question : Type 0 → Type 0
Question Values = Outcome Unit Values

abbrev pub answers : {Values : Type 0} → Values → Question Values
answers values = went tt values
