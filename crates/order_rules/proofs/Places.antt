-- What stands where: after an exchange of two places, and in a list whose front is filled anew.
-- A list rises where the energy at each place is at most those at later places. Assumes nothing.
use mathlib.Core.Path.{◌≡◌, sym, ap, ◌∙◌, subst}
use mathlib.Core.Logic.{◌⊎◌, inl, inr}
use mathlib.Core.List.{List, [], ◌∷◌, ◌++◌}
use Prim.Native.Nat.{ℕ, zero, suc, ◌+◌, ◌-◌, ◌≤◌, ◌<◌, zero-le, suc-le-suc}
use native.Mathlib.Nat.{le_of_suc-le-suc, not-suc-le-zero}
use native.Mathlib.Decide.{ℕ_discrete}
use native.Mathlib.Omega.{arith}
use lib.Dec.{T}
use lib.ListN.{length, take, drop, set, length-set, length-drop, get_or-append}
use lib.Seq.{take_all, get_or-set_same, get_or-set_other, get_or-append-add, get_or-drop}
use lib.Ieee.{Float, nan, le}
use Rattle.base_floats.specs.Entry.{at}
use Rattle.order_rules.specs.Arrangement.{Reordered, Rising, exchanged}
use Rattle.order_rules.proofs.Perms.{exchange_perm, all_at, all_of}

pub le_by : {x a y b : Float} → x ≡ a → y ≡ b → T (le a b) → T (le x y)
le_by p q h = rw (p, q) h

pub same_or_other : (i j : ℕ) → (i ≡ j) ⊎ (i ≡ j → ⊥)
same_or_other i j = go (ℕ_discrete i j)
  where
    go : Dec (i ≡ j) → (i ≡ j) ⊎ (i ≡ j → ⊥)
    go (yes e) = inl e
    go (no n) = inr n

module _ (l : List Float) (i j : ℕ) where
  pub exchanged_length : length (exchanged l i j) ≡ length l
  exchanged_length = simp length-set

  pub exchanged_second : j < length l → at (exchanged l i j) j ≡ at l i
  exchanged_second h = get_or-set_same (set l i (at l j)) j (at l i) nan (simp length-set h)

  pub exchanged_first : i < length l → at (exchanged l i j) i ≡ at l j
  exchanged_first h = go (same_or_other i j)
    where
      go : (i ≡ j) ⊎ (i ≡ j → ⊥) → at (exchanged l i j) i ≡ at l j
      go (inl e) =
          ap (at (exchanged l i j)) e ∙ get_or-set_same (set l i (at l j)) j (at l i) nan (simp length-set (subst (λ (k : ℕ). k < length l) e h)) ∙ ap (at l) e
      go (inr n) = get_or-set_other (set l i (at l j)) j i (at l i) nan n ∙ get_or-set_same l i (at l j) nan h

  pub exchanged_other : (k : ℕ) → (k ≡ i → ⊥) → (k ≡ j → ⊥) → at (exchanged l i j) k ≡ at l k
  exchanged_other k n m = get_or-set_other (set l i (at l j)) j k (at l i) nan m ∙ get_or-set_other l i k (at l j) nan n

-- all that of a list which an exchange leaves, and that it has the same energies
pub record Exchange (l : List Float) (i j : ℕ) (new : List Float) : Type 0 where
  pub first : at new i ≡ at l j
  pub second : at new j ≡ at l i
  pub other : (k : ℕ) → (k ≡ i → ⊥) → (k ≡ j → ⊥) → at new k ≡ at l k
  pub long : length new ≡ length l
  pub turn : Reordered l new

pub exchange_is : {new : List Float} (l : List Float) (i j : ℕ) → i < length l → j < length l → new ≡ exchanged l i j → Exchange l i j new
exchange_is l i j h g e =
    subst (Exchange l i j) (sym e) (record {
      first = exchanged_first l i j h;
      second = exchanged_second l i j g;
      other = exchanged_other l i j;
      long = exchanged_length l i j;
      turn = exchange_perm l i j h g;
    })

-- ---- a list whose first m places are filled anew
module _ (l ys : List Float) (m : ℕ) (e : length ys ≡ m) where
  pub front_at : (k : ℕ) → k < m → at (ys ++ drop m l) k ≡ at ys k
  front_at k h = get_or-append ys (drop m l) nan k (omega arith)

  pub back_at : (k : ℕ) → m ≤ k → at (ys ++ drop m l) k ≡ at l k
  back_at k h =
      let split : k ≡ length ys + (k - m) = omega arith in
      let whole : m + (k - m) ≡ k = omega arith in
      ap (at (ys ++ drop m l)) split ∙ get_or-append-add ys (drop m l) (k - m) nan ∙ get_or-drop m l (k - m) nan ∙ ap (at l) whole

-- a part that is lent up to the end: the cut there cuts nothing off
pub last_part : (from : ℕ) (l : List Float) → take (length l - from) (drop from l) ≡ drop from l
last_part from l = take_all (length l - from) (drop from l) (omega (arith, length-drop from l))

-- ---- rising, by places
pub rising_of : (l : List Float) → ((i j : ℕ) → i < j → j < length l → T (le (at l i) (at l j))) → Rising l
rising_of [] h = tt
rising_of (x ∷ l) h = (
  all_of (λ y. T (le x y)) l (λ j g. h zero (suc j) (suc-le-suc zero-le) (suc-le-suc g)),
  rising_of l (λ i j g k. h (suc i) (suc j) (suc-le-suc g) (suc-le-suc k)),
)

pub rising_at : (l : List Float) → Rising l → (i j : ℕ) → i < j → j < length l → T (le (at l i) (at l j))
rising_at [] r i j h g = absurd (not-suc-le-zero g)
rising_at (x ∷ l) r zero zero h g = absurd (not-suc-le-zero h)
rising_at (x ∷ l) r zero (suc j) h g = all_at (λ y. T (le x y)) l r.0 j (le_of_suc-le-suc g)
rising_at (x ∷ l) r (suc i) zero h g = absurd (not-suc-le-zero h)
rising_at (x ∷ l) r (suc i) (suc j) h g = rising_at l r.1 i j (le_of_suc-le-suc h) (le_of_suc-le-suc g)
