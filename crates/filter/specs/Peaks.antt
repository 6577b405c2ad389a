-- A channel's peak, as a caller reads it.
use Rattle.std.specs.Prelude.{ℕ, cond, List, ltb, get_or, Float}
use Rattle.base_floats.specs.Entry.{plus_zero}
use Rattle.filter.specs.declared.Filter.{Filter}

-- a channel's peak among those stored, and 0 where the filter has no such channel
abbrev pub peak_of : Filter → List Float → ℕ → Float
peak_of filter stored channel = cond (ltb channel filter.channels) (get_or stored channel plus_zero) plus_zero
