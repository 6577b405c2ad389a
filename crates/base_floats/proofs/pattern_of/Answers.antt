-- `base_floats::pattern_of` meets its contract: NaN is told apart first, and any other float has one pattern. Assumes nothing.
use mathlib.Core.Path.{sym, ◌∙◌}
use lib.Ieee.{to_bits}
use Rattle.base_floats.proofs.Nan.{only_nan}
use Rattle.base_floats.proofs.pattern_of.Goals as goal

pub returns-then-is_nan : goal.returns-then-is_nan
unfolding to_bits
returns-then-is_nan c = rw (only_nan c.args.x (sym c.is_nan.ensures.value ∙ c.if-is_nan.true))
