-- A rule between two lists holds at each place that both have, once its test over the whole lists passes. Assumes nothing.
use mathlib.Core.Bool.{Bool}
use mathlib.Core.List.{List, [], ◌∷◌}
use Prim.Native.Nat.{ℕ, zero, suc, ◌<◌}
use native.Mathlib.Nat.{le_of_suc-le-suc, not-suc-le-zero}
use lib.Dec.{T}
use lib.ListN.{length, get_or}
use lib.Ieee.{Float}
use lib.Ieee.Fits.{and_l, and_r}
use Rattle.bins_tables.specs.Rules.{pairs}

pub at : (f : Float → Float → Bool) (d : Float) (xs ys : List Float) → T (pairs f xs ys)
    → (k : ℕ) → k < length xs → k < length ys → T (f (get_or xs k d) (get_or ys k d))
at f d [] ys t k h g = absurd (not-suc-le-zero h)
at f d (x ∷ xs) [] t k h g = absurd (not-suc-le-zero g)
at f d (x ∷ xs) (y ∷ ys) t zero h g = and_l (f x y) (pairs f xs ys) t
at f d (x ∷ xs) (y ∷ ys) t (suc k) h g = at f d xs ys (and_r (f x y) (pairs f xs ys) t) k (le_of_suc-le-suc h) (le_of_suc-le-suc g)
