-- What the steps of the heap are stated by.
use Rattle.std.specs.Prelude.{List, ℕ, ◌+◌, ◌*◌, ◌≤◌, ◌<◌, T, length, Float}
use Rattle.std.specs.Float.Ieee.{le}
use Rattle.base_floats.specs.Entry.{at}
use Rattle.order_rules.specs.Arrangement.{Reordered}

-- the children of p in a heap are 2p + 1 and 2p + 2
abbrev pub Child : ℕ → ℕ → Type 0
Child p k = (2 * p < k) × (k ≤ 2 * p + 2)

-- from the place `from` on, no child is above its parent
abbrev pub HeapFrom : ℕ → List Float → Type 0
HeapFrom from l = (p k : ℕ) → from ≤ p → Child p k → k < length l → T (le (at l k) (at l p))

-- r is a child of p, and no child of p is above it
pub record Larger (p : ℕ) (l : List Float) (r : ℕ) : Type 0 where
  pub child : Child p r
  pub inside : r < length l
  pub largest : (k : ℕ) → Child p k → k < length l → T (le (at l k) (at l r))

pub record Heaped (from : ℕ) (old new : List Float) : Type 0 where
  pub same : Reordered old new
  pub heap : HeapFrom from new
