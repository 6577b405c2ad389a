-- What the steps of the ordering are stated by: a test that every energy and the next pass, and energies that fall.
use Rattle.std.specs.Prelude.{Bool, true, List, ℕ, suc, ◌<◌, T, length, Float}
use Rattle.std.specs.Float.Ieee.{le}
use Rattle.base_floats.specs.Entry.{at}

-- up to a place a test says true of each energy and the next
pub record Steps (says : Float → Float → Bool → Type 0) (until : ℕ) (l : List Float) : Type 0 where
  pub each : (k : ℕ) → k < until → says (at l k) (at l (suc k)) true

abbrev pub Falling : List Float → Type 0
Falling l = (i j : ℕ) → i < j → j < length l → T (le (at l j) (at l i))
