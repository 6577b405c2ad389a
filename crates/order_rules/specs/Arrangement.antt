-- What the steps of an ordering are stated by: the same energies in another order, and energies that rise.
use Rattle.std.specs.Prelude.{ℕ, List, [], ◌∷◌, T, set, Float}
use Rattle.std.specs.Float.Ieee.{le}
use Rattle.std.specs.Float.Ieee.Positive.{above}
use Rattle.base_floats.specs.Entry.{at}

-- a list in another order: two neighbours swapped, below what stands first, as often as one likes
pub data Reordered {A : Type 0} : List A → List A → Type 0 where
  unmoved : (l : List A) → Reordered l l
  under : (x : A) {l k : List A} → Reordered l k → Reordered (x ∷ l) (x ∷ k)
  swap : (x y : A) (l : List A) → Reordered (x ∷ y ∷ l) (y ∷ x ∷ l)
  after : {l k j : List A} → Reordered l k → Reordered k j → Reordered l j

abbrev pub All : (Float → Type 0) → List Float → Type 0
All P [] = Unit
All P (x ∷ l) = P x × All P l

abbrev pub Above : List Float → Type 0
Above l = All (λ x. T (above x)) l

-- each energy is at most every later one
abbrev pub Rising : List Float → Type 0
Rising [] = Unit
Rising (x ∷ l) = All (λ y. T (le x y)) l × Rising l

-- `new` has the energies of `old`, and they rise
pub record Ordered (old new : List Float) : Type 0 where
  pub same : Reordered old new
  pub rising : Rising new

-- what stood at i stands at j, and the other way round
abbrev pub exchanged : List Float → ℕ → ℕ → List Float
exchanged l i j = set (set l i (at l j)) j (at l i)
