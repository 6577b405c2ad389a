-- How many energies pass a test: the count of a joined list is the sum, no order changes it, and a test that passes more counts more. Assumes nothing.
use mathlib.Core.Path.{◌≡◌, refl, ap, ◌∙◌}
use mathlib.Core.Bool.{Bool, true, false, cond}
use mathlib.Core.List.{List, [], ◌∷◌, ◌++◌}
use Prim.Native.Nat.{ℕ, ◌+◌, ◌≤◌}
use native.Mathlib.Omega.{arith}
use lib.Dec.{T}
use lib.ListN.{length}
use lib.Ieee.{Float}
use Rattle.order_rules.specs.Arrangement.{Reordered, unmoved, under, swap, after}
use Rattle.order_short.specs.Inner.{count}

one_or_none : (b : Bool) → cond b 1 0 ≤ 1
one_or_none true = omega arith
one_or_none false = omega arith

module _ (test : Float → Bool) where
  pub count_join : (l k : List Float) → count test (l ++ k) ≡ count test l + count test k
  count_join [] k = omega arith
  count_join (x ∷ l) k = omega (arith, count_join l k)

  pub count_perm : {l k : List Float} → Reordered l k → count test l ≡ count test k
  count_perm (unmoved l) = refl
  count_perm (under x p) = ap (λ (n : ℕ). cond (test x) 1 0 + n) (count_perm p)
  count_perm (swap x y l) = omega arith
  count_perm (after p q) = count_perm p ∙ count_perm q

  pub count_within : (l : List Float) → count test l ≤ length l
  count_within [] = omega arith
  count_within (x ∷ l) = omega (arith, count_within l, one_or_none (test x))

pub count_more : (p q : Float → Bool) → ((x : Float) → T (p x) → T (q x)) → (l : List Float) → count p l ≤ count q l
count_more p q f [] = omega arith
count_more p q f (x ∷ l) = go (p x) (q x) (f x) (count_more p q f l)
  where
    go : (a b : Bool) → (T a → T b) → count p l ≤ count q l → cond a 1 0 + count p l ≤ cond b 1 0 + count q l
    go true true g h = omega arith
    go true false g h = absurd (g tt)
    go false true g h = omega arith
    go false false g h = omega arith
