-- The same energies in another order: the relation goes under a common front and back, keeps the length and whatever holds of every energy,
-- and an exchange of two places is one. Each law goes along the steps that a permutation is made of. Assumes nothing.
use mathlib.Core.Path.{◌≡◌, refl, sym, ap, ◌∙◌, subst}
use mathlib.Core.List.{List, [], ◌∷◌, ◌++◌}
use Prim.Native.Nat.{ℕ, zero, suc, ◌<◌, zero-le, suc-le-suc}
use native.Mathlib.Nat.{not-suc-le-zero, le_of_suc-le-suc}
use lib.ListN.{length, take, drop, set, take-append-drop}
use lib.Ieee.{Float, nan}
use Rattle.std.specs.List.Sorted.{IsPermutation}
use Rattle.std.proofs.lemmas.List.Edits.{swap_is}
use Rattle.std.proofs.lemmas.List.Sorted.{IsPermutation-keeps}
use Rattle.base_floats.specs.Entry.{at}
use Rattle.order_rules.specs.Arrangement.{Reordered, unmoved, under, swap, after, All, exchanged}

pub perm_length : {A : Type 0} {l k : List A} → Reordered l k → length l ≡ length k
perm_length (unmoved l) = refl
perm_length (under x p) = ap suc (perm_length p)
perm_length (swap x y l) = refl
perm_length (after p q) = perm_length p ∙ perm_length q

pub perm_front : (a : List Float) {l k : List Float} → Reordered l k → Reordered (a ++ l) (a ++ k)
perm_front [] p = p
perm_front (x ∷ a) p = under x (perm_front a p)

pub perm_back : {l k : List Float} → Reordered l k → (b : List Float) → Reordered (l ++ b) (k ++ b)
perm_back (unmoved l) b = unmoved (l ++ b)
perm_back (under x p) b = under x (perm_back p b)
perm_back (swap x y l) b = swap x y (l ++ b)
perm_back (after p q) b = after (perm_back p b) (perm_back q b)

-- ---- the first m places, or those from m on, in another order
pub front_perm : (m : ℕ) (l front : List Float) → Reordered (take m l) front → Reordered l (front ++ drop m l)
front_perm m l front p = subst (λ (k : List Float). Reordered k (front ++ drop m l)) (take-append-drop m l) (perm_back p (drop m l))

pub back_perm : (m : ℕ) (l back : List Float) → Reordered (drop m l) back → Reordered l (take m l ++ back)
back_perm m l back p = subst (λ (k : List Float). Reordered k (take m l ++ back)) (take-append-drop m l) (perm_front (take m l) p)

-- ---- an exchange of two places: the first energy and the one at j, then any two
first_with : (x : Float) (l : List Float) (j : ℕ) → j < length l → Reordered (x ∷ l) (at l j ∷ set l j x)
first_with x [] j h = absurd (not-suc-le-zero h)
first_with x (y ∷ l) zero h = swap x y l
first_with x (y ∷ l) (suc j) h = after (swap x y l) (after (under y (first_with x l j (le_of_suc-le-suc h))) (swap y (at l j) (set l j x)))

pub exchange_perm : (l : List Float) (i j : ℕ) → i < length l → j < length l → Reordered l (exchanged l i j)
exchange_perm [] i j h g = absurd (not-suc-le-zero h)
exchange_perm (x ∷ l) zero zero h g = unmoved (x ∷ l)
exchange_perm (x ∷ l) zero (suc j) h g = first_with x l j (le_of_suc-le-suc g)
exchange_perm (x ∷ l) (suc i) zero h g = first_with x l i (le_of_suc-le-suc h)
exchange_perm (x ∷ l) (suc i) (suc j) h g = under x (exchange_perm l i j (le_of_suc-le-suc h) (le_of_suc-le-suc g))

pub exchanged_perm : (l k : List Float) (i j : ℕ) → i < length l → j < length l → k ≡ exchanged l i j → Reordered l k
exchanged_perm l k i j h g e = subst (Reordered l) (sym e) (exchange_perm l i j h g)

-- what the library says of a list in another order
pub reordered_from : (l k : List Float) → IsPermutation l k → Reordered l k
reordered_from l k p =
    IsPermutation-keeps l (Reordered l) (unmoved l)
    (λ m i j a b q. after q (subst (Reordered m) (swap_is m i j nan a b) (exchange_perm m i j a b))) k p

-- ---- what holds of every energy
module _ (P : Float → Type 0) where
  pub all_perm : {l k : List Float} → Reordered l k → All P l → All P k
  all_perm (unmoved l) h = h
  all_perm (under x p) h = (h.0, all_perm p h.1)
  all_perm (swap x y l) h = (h.1.0, (h.0, h.1.1))
  all_perm (after p q) h = all_perm q (all_perm p h)

  pub all_at : (l : List Float) → All P l → (i : ℕ) → i < length l → P (at l i)
  all_at [] h i g = absurd (not-suc-le-zero g)
  all_at (x ∷ l) h zero g = h.0
  all_at (x ∷ l) h (suc i) g = all_at l h.1 i (le_of_suc-le-suc g)

  pub all_of : (l : List Float) → ((i : ℕ) → i < length l → P (at l i)) → All P l
  all_of [] h = tt
  all_of (x ∷ l) h = (h zero (suc-le-suc zero-le), all_of l (λ i g. h (suc i) (suc-le-suc g)))

  pub all_join : (l k : List Float) → All P l → All P k → All P (l ++ k)
  all_join [] k h g = g
  all_join (x ∷ l) k h g = (h.0, all_join l k h.1 g)

  pub all_take : (n : ℕ) (l : List Float) → All P l → All P (take n l)
  all_take zero l h = tt
  all_take (suc n) [] h = tt
  all_take (suc n) (x ∷ l) h = (h.0, all_take n l h.1)

  pub all_drop : (n : ℕ) (l : List Float) → All P l → All P (drop n l)
  all_drop zero l h = h
  all_drop (suc n) [] h = tt
  all_drop (suc n) (x ∷ l) h = all_drop n l h.1

pub all_map : {P Q : Float → Type 0} → ((x : Float) → P x → Q x) → (l : List Float) → All P l → All Q l
all_map f [] h = tt
all_map f (x ∷ l) h = (f x h.0, all_map f l h.1)
