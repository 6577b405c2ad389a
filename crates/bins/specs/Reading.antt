-- The reading of an energy in tenths of a LUFS (02, CR 1): "the nearest tenth: -700 + bin when the energy is below that bin's table energy, otherwise one more. Readings
-- now run from -700 to 300." 01 had "-700 + its bin". SCALE "as before" (01): "of NaN, below boundary 0, or at or above boundary 1000".
use Rattle.std.specs.Prelude.{ℕ, ◌+◌, Bool, ◌||◌, cond, List, [], ◌∷◌, ℤ, pos, neg_ℤ, ◌+ℤ◌, Float}
use Rattle.std.specs.Float.Ieee.{lt, le, is_nan}
use Rattle.base_refusals.specs.declared.Refusal.TheVariants.{SCALE}
use Rattle.base_refusals.specs.Outcome.{Question, answers}
use Rattle.base_refusals.specs.Rows.{Row, row, by_rows}
use Rattle.bins_tables.specs.Tables.{boundary_at, energy_at}
use Rattle.bins.specs.Bin.{bin_of, bins}

-- the lowest reading, in tenths: -70.0 LUFS
abbrev pub lowest : ℤ
lowest = neg_ℤ (pos 700)

unfoldable pub off_scale : Float → Bool
off_scale energy = is_nan energy || (lt energy (boundary_at 0) || le (boundary_at bins) energy)

-- the tenth nearest an energy of the scale, counted from the lowest. A bin's table energy stands in the bin's middle: below it the tenth where the bin begins is the nearest,
-- from it on the next
unfoldable pub nearest_tenth : Float → ℕ
nearest_tenth energy = cond (lt energy (energy_at (bin_of energy))) (bin_of energy) (bin_of energy + 1)

-- the tenths of an energy that is on the scale
abbrev pub tenths_of : Float → ℤ
tenths_of energy = lowest +ℤ pos (nearest_tenth energy)

abbrev pub reading_rows : Float → List Row
reading_rows energy = row SCALE (off_scale energy) ∷ []

unfoldable pub reading_of : Float → Question ℤ
reading_of energy = by_rows (reading_rows energy) (answers (tenths_of energy))
