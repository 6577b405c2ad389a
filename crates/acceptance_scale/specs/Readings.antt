-- "The reading becomes the nearest tenth .. Readings now run from -700 to 300" (02, CR 1).
-- Boundary i stands at -70 + i/10 LUFS, and energy i half a tenth above it (Scale.antt). So the energies that are nearest to a tenth are those from the table energy half a
-- tenth below it up to the one half a tenth above; the scale itself begins at boundary 0 and ends below boundary 1000. proofs/Readings.antt proves `ReadingIsNearest`.
use Rattle.std.specs.Prelude.{ℕ, ◌+◌, ◌<◌, ◌≡◌, T, ℤ, pos, neg_ℤ, ◌+ℤ◌, ◌≤ℤ◌, Float}
use Rattle.std.specs.Float.Ieee.{lt, le}
use Rattle.base_refusals.specs.Outcome.{answers}
use Rattle.bins_tables.specs.Tables.{boundary_at, energy_at}
use Rattle.bins.specs.Reading.{reading_of}

pub record ReadingIsNearest : Type 0 where
  -- the energies of -70.0 LUFS; of each tenth above it; of 30.0 LUFS. Together they are the scale
  pub at_lowest : (x : Float) → T (le (boundary_at 0) x) → T (lt x (energy_at 0)) → reading_of x ≡ answers (neg_ℤ (pos 700))
  pub between : (i : ℕ) → 1 + i < 1_000 → (x : Float) → T (le (energy_at i) x) → T (lt x (energy_at (1 + i))) → reading_of x ≡ answers (neg_ℤ (pos 700) +ℤ pos (1 + i))
  pub at_highest : (x : Float) → T (le (energy_at 999) x) → T (lt x (boundary_at 1_000)) → reading_of x ≡ answers (pos 300)
  -- no reading is below -700 or above 300, and both are reached
  pub not_below : (x : Float) (tenths : ℤ) → reading_of x ≡ answers tenths → neg_ℤ (pos 700) ≤ℤ tenths
  pub not_above : (x : Float) (tenths : ℤ) → reading_of x ≡ answers tenths → tenths ≤ℤ pos 300
  pub lowest_reached : reading_of (boundary_at 0) ≡ answers (neg_ℤ (pos 700))
  pub highest_reached : reading_of (energy_at 999) ≡ answers (pos 300)
  -- a reading never falls where the energy rises
  pub rises : (x y : Float) (lower upper : ℤ) → T (le x y) → reading_of x ≡ answers lower → reading_of y ≡ answers upper → lower ≤ℤ upper
