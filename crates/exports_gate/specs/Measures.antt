-- How the C interface tells the measures of a gate: count and sum each through a pointer of its own.
use Rattle.std.specs.Prelude.{ℕ, Float}
use Rattle.gate.specs.declared.blocks.Totals.{Totals}

-- what stands in the two places that receive totals
abbrev pub totals_over : ℕ → Float → Totals
totals_over blocks sum = record { count = blocks; sum = sum }
