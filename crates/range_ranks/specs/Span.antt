-- What a range answers, and its gate (01, step 9): "Gate energy = (f64 nearest 1/100) times the mean".
use Rattle.std.specs.Prelude.{false, Float}
use Rattle.std.specs.Float.{binary64}
use Rattle.std.specs.Float.Ieee.{mul, round}
use Rattle.base_refusals.specs.Refusal.{number}
use Rattle.base_refusals.specs.Outcome.{Said, says, refusal}
use Rattle.gate.specs.declared.blocks.Totals.{Totals}
use Rattle.gate.specs.Totals.{mean_of}
use Rattle.range_ranks.specs.declared.spans.Span.{Span as Answer}
use Rattle.range_ranks.specs.declared.spans.Span.TheVariants.{Found, Nothing, NotANumber, Refused}

-- what a range answers: two energies, nothing, or not a number
pub data Span : Type 0 where
  found : Float → Float → Span
  nothing : Span
  not_a_number : Span

-- what each case of the answer says
abbrev pub said : Answer → Said Span
said (Found low high) = says (found low high)
said Nothing = says nothing
said NotANumber = says not_a_number
said (Refused r) = refusal (number r)

-- the f64 nearest 1/100: 20 LU down
unfoldable pub hundredth : Float
hundredth = round binary64 false 1 100

abbrev pub gate_energy : Totals → Float
gate_energy totals = mul binary64 hundredth (mean_of totals)
