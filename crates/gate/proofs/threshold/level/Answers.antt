-- `threshold::level` meets its contract: the code's -70.0 is the f64 of that number. Assumes nothing.
use Rattle.std.proofs.Common.{◌≡◌, refl, eq-eqb}
use lib.Ieee.{binary64, of_bits, round}
use Rattle.gate.specs.Relative.{lowest}
use Rattle.gate.proofs.threshold.level.Goals as goal

the_lowest : of_bits binary64 0xc051_8000_0000_0000 ≡ lowest
unfolding lowest of_bits round
the_lowest = refl

pub returns-then-totals-eq0 : goal.returns-then-totals-eq0
returns-then-totals-eq0 c = rw (the_lowest, eq-eqb c.args.totals.count 0 c.if-totals-eq0.true)
