-- The bin of an energy (01, step 7): "the last bin whose boundary is not above the energy; NaN goes to bin 0, infinity to bin 999."
use Rattle.std.specs.Prelude.{ℕ, zero, suc, cond, Float}
use Rattle.std.specs.Float.Ieee.{le}
use Rattle.bins_tables.specs.Tables.{boundary_at}

-- how many bins a histogram has
abbrev pub bins : ℕ
bins = 1000

-- the last of the first n bins whose boundary is not above the energy, and bin 0 where there is none. No boundary is at or below NaN
unfoldable pub last_not_above : Float → ℕ → ℕ
last_not_above energy zero = 0
last_not_above energy (suc n) = cond (le (boundary_at n) energy) n (last_not_above energy n)

unfoldable pub bin_of : Float → ℕ
unfolding last_not_above
bin_of energy = last_not_above energy bins
