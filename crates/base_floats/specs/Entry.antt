-- +0, and the entries of a list of floats. A float is the same at either format, so each of these serves f32 and f64.
use Rattle.std.specs.Prelude.{false, List, ℕ, pos, get_or, Float}
use Rattle.std.specs.Float.{nan, fin}

abbrev pub plus_zero : Float
plus_zero = fin false 0 (pos 0)

-- entry i, and NaN past the end
abbrev pub at : List Float → ℕ → Float
at l i = get_or l i nan
