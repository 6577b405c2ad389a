-- Energies of blocks as both documents speak of them: sums, means, and so many LU below a level. A level that lies 10 LU lower is a tenth of the energy, one that lies
-- 20 LU lower a hundredth. What the documents leave open is taken from 01: f64 sums, each from 0, and the f64 nearest 1/10 and 1/100.
use Rattle.std.specs.Prelude.{ℕ, false, List, [], ◌∷◌, pos, Float}
use Rattle.std.specs.Float.{binary64}
use Rattle.std.specs.Float.Ieee.{add, mul, div, of_int, of_bits, round}
use Rattle.bins_tables.specs.Tables.{boundary_at}

-- -70 LUFS, the absolute gate of both
abbrev pub absolute_gate : Float
absolute_gate = boundary_at 0

abbrev pub no_energy : Float
no_energy = of_bits binary64 0

-- energies added in order to a running sum
unfoldable pub added : Float → List Float → Float
added sum [] = sum
added sum (energy ∷ rest) = added (add binary64 sum energy) rest

-- the mean of so many blocks with this sum
abbrev pub mean : ℕ → Float → Float
mean blocks sum = div binary64 sum (of_int binary64 (pos blocks))

abbrev pub ten_lu_below : Float → Float
ten_lu_below level = mul binary64 level (round binary64 false 1 10)

abbrev pub twenty_lu_below : Float → Float
twenty_lu_below level = mul binary64 (round binary64 false 1 100) level
