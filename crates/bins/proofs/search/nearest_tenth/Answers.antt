-- `search::nearest_tenth` meets its contract: the bin that was found is the energy's, and what the energy was compared with is the bin's table energy. Assumes nothing.
use mathlib.Core.Path.{◌≡◌, sym, ap, ◌∙◌}
use mathlib.Core.Bool.{Bool, true, false, cond}
use Prim.Native.Nat.{◌+◌}
use native.Mathlib.Omega.{arith}
use lib.Ieee.{lt}
use Rattle.bins.specs.Reading.{nearest_tenth}
use Rattle.bins.proofs.Bins.{bin_below}
use Rattle.bins.proofs.Readings.{tenth_of}
use Rattle.bins.proofs.search.nearest_tenth.Goals as goal
use Rattle.bins.proofs.search.nearest_tenth.Goals.{After-energy}

pub overflow_add-result : goal.overflow_add-result
overflow_add-result c = omega (arith, c.find_histogram_index-bin.ensures, bin_below c.args.energy)

-- either way of the test
compared : (c : After-energy) (below : Bool) → lt c.args.energy c.energy.result ≡ below
    → cond below c.find_histogram_index-bin.result (c.find_histogram_index-bin.result + 1) ≡ nearest_tenth c.args.energy
compared c below h =
    let e = c.args.energy in
    let bin = c.find_histogram_index-bin in
    sym (tenth_of e bin.result below (sym bin.ensures) (ap (lt e) (sym c.energy.ensures) ∙ h))

pub returns-then-energy : goal.returns-then-energy
returns-then-energy c = compared (goal.at.returns-then-energy c).After-energy true c.if-energy.true

pub returns-else-energy : goal.returns-else-energy
returns-else-energy c = compared (goal.at.returns-else-energy c).After-energy false c.if-energy.false
