-- Energies in rising order (01, step 9: "all held energies in rising order").
-- It is told for energies above zero: positive ones, and infinity. Of those no two compare equal but are the same value, so the order is the only one.
use Rattle.std.specs.Prelude.{Bool, true, ◌&&◌, cond, List, [], ◌∷◌, Float}
use Rattle.std.specs.Float.Ieee.{le}
use Rattle.std.specs.Float.Ieee.Positive.{above}

-- `energy` put before the first that is not below it
unfoldable pub put : Float → List Float → List Float
put energy [] = energy ∷ []
put energy (next ∷ rest) = cond (le energy next) (energy ∷ next ∷ rest) (next ∷ put energy rest)

unfoldable pub in_order : List Float → List Float
unfolding put
in_order [] = []
in_order (energy ∷ rest) = put energy (in_order rest)

-- NaN is not above zero
unfoldable pub all_above : List Float → Bool
all_above [] = true
all_above (energy ∷ rest) = above energy && all_above rest

-- what lent energies come to: where one is not above zero they stay as they were
abbrev pub ordered : List Float → List Float
ordered energies = cond (all_above energies) (in_order energies) energies
