-- What a few energies come to: in rising order where there are at most 24 and all are above zero, else they stay as they were.
use Rattle.std.specs.Prelude.{Bool, false, cond, List, ℕ, ltb, length, Float}
use Rattle.order_rules.specs.Order.{in_order, all_above}

abbrev pub short : ℕ
short = 24

abbrev pub short_above : List Float → Bool
short_above energies = cond (ltb short (length energies)) false (all_above energies)

abbrev pub short_ordered : List Float → List Float
short_ordered energies = cond (short_above energies) (in_order energies) energies
