-- What the steps of the splitting are stated by.
use Rattle.std.specs.Prelude.{◌≡◌, Bool, true, false, List, ℕ, ◌≤◌, ◌<◌, T, length, Float}
use Rattle.std.specs.Float.Ieee.{le}
use Rattle.std.specs.Float.Ieee.Positive.{above}
use Rattle.base_floats.specs.Entry.{at}
use Rattle.order_rules.specs.Arrangement.{Reordered, Above}

-- no energy is below the first
abbrev pub Lowest : List Float → Type 0
Lowest l = (k : ℕ) → k < length l → T (le (at l 0) (at l k))

-- a test of an energy and the pivot parts them: those that pass are at most the pivot, the others at least
pub record Splits (says : Float → Float → Bool → Type 0) : Type 0 where
  pub passed : (x pivot : Float) → T (above x) → T (above pivot) → says x pivot true → T (le x pivot)
  pub failed : (x pivot : Float) → T (above x) → T (above pivot) → says x pivot false → T (le pivot x)

-- the pivot stands first; after it, before the place `low`, stand energies at most it, and from there up to i energies at least it
pub record Parting (pivot : Float) (low i : ℕ) (old new : List Float) : Type 0 where
  pub same : Reordered old new
  pub above : Above new
  pub first : at new 0 ≡ pivot
  pub some : 0 < low
  pub within : low ≤ i
  pub inside : i ≤ length new
  pub below : (k : ℕ) → 0 < k → k < low → T (le (at new k) pivot)
  pub over : (k : ℕ) → low ≤ k → k < i → T (le pivot (at new k))

-- the places from `from` up to `to` are settled: what stands there, and what stands before and after them, is in order
pub record Parted (from to : ℕ) (old new : List Float) : Type 0 where
  pub same : Reordered old new
  pub ordered : from ≤ to
  pub inside : to ≤ length new
  pub settled : (i j : ℕ) → i < j → i < to → from ≤ j → j < length new → T (le (at new i) (at new j))
