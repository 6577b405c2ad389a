-- The laws of `in_order`: it has the same energies, and they rise; and whatever has the same energies and rises is `in_order` of them.
-- Putting two energies in gives the same list either way round, since of two one is at most the other, and two that are at most each other are the same value.
-- Assumes nothing.
use mathlib.Core.Path.{◌≡◌, refl, sym, ap, ◌∙◌, subst}
use mathlib.Core.Bool.{Bool, true, false, cond}
use mathlib.Core.List.{List, [], ◌∷◌}
use Prim.Native.Nat.{ℕ}
use lib.Dec.{T}
use lib.ListN.{length}
use lib.Ieee.{Float, le, fits, binary64}
use Rattle.base_floats.proofs.Order.{is_true, float_le_trans}
use lib.Ieee.Positive.{above}
use Rattle.order_rules.specs.Order.{put, in_order}
use Rattle.base_floats.specs.Entry.{at}
use Rattle.order_rules.specs.Arrangement.{Reordered, unmoved, under, swap, after, All, Above, Rising, Ordered}
use Rattle.order_rules.proofs.Perms.{perm_length, all_perm, all_map, all_at, all_of}
use Rattle.order_rules.proofs.Energies.{not_at_most, same_value}

-- an energy as a lent slice holds it: a value of its type, and above zero
abbrev pub Energy : Float → Type 0
Energy x = T (above x) × T (fits binary64 x)

pub energies : (l : List Float) → Above l → ((i : ℕ) → T (fits binary64 (at l i))) → All Energy l
energies l a f = all_of Energy l (λ i h. (all_at (λ x. T (above x)) l a i h, f i))

-- ---- the same energies
pub put_perm : (x : Float) (l : List Float) → Reordered (x ∷ l) (put x l)
unfolding put
put_perm x [] = unmoved (x ∷ [])
put_perm x (y ∷ l) = go (le x y) (put_perm x l)
  where
    go : (b : Bool) → Reordered (x ∷ l) (put x l) → Reordered (x ∷ y ∷ l) (cond b (x ∷ y ∷ l) (y ∷ put x l))
    go true p = unmoved (x ∷ y ∷ l)
    go false p = after (swap x y l) (under y p)

pub in_order_perm : (l : List Float) → Reordered l (in_order l)
unfolding in_order
in_order_perm [] = unmoved []
in_order_perm (x ∷ l) = after (under x (in_order_perm l)) (put_perm x (in_order l))

pub in_order_length : (l : List Float) → length (in_order l) ≡ length l
in_order_length l = sym (perm_length (in_order_perm l))

-- ---- they rise
pub at_most_all : (x y : Float) → T (le x y) → (l : List Float) → All (λ z. T (le y z)) l → All (λ z. T (le x z)) l
at_most_all x y h l k = all_map (λ z g. float_le_trans x y z h g) l k

put_rises : (x : Float) (l : List Float) → T (above x) → Above l → Rising l → Rising (put x l)
unfolding put
put_rises x [] p a r = (tt, tt)
put_rises x (y ∷ l) p a r = go (le x y) refl (put_rises x l p a.1 r.1)
  where
    go : (b : Bool) → le x y ≡ b → Rising (put x l) → Rising (cond b (x ∷ y ∷ l) (y ∷ put x l))
    go true e s = let h : T (le x y) = subst T (sym e) tt in ((h, at_most_all x y h l r.0), r)
    go false e s = (all_perm (λ z. T (le y z)) (put_perm x l) (not_at_most x y p a.0 e, r.0), s)

pub in_order_rises : (l : List Float) → Above l → Rising (in_order l)
unfolding in_order
in_order_rises [] a = tt
in_order_rises (x ∷ l) a = put_rises x (in_order l) a.0 (all_perm (λ z. T (above z)) (in_order_perm l) a.1) (in_order_rises l a.1)

pub in_order_lem : (l new : List Float) → Above l → new ≡ in_order l → Ordered l new
in_order_lem l new a e = record { same = subst (Reordered l) (sym e) (in_order_perm l); rising = subst Rising (sym e) (in_order_rises l a) }

-- ---- it is the only list that does both
module _ (x y : Float) (p : Energy x) (q : Energy y) where
  two : (l : List Float) → cond (le x y) (x ∷ y ∷ l) (y ∷ x ∷ l) ≡ cond (le y x) (y ∷ x ∷ l) (x ∷ y ∷ l)
  two l = go (le x y) (le y x) refl refl
    where
      go : (b c : Bool) → le x y ≡ b → le y x ≡ c → cond b (x ∷ y ∷ l) (y ∷ x ∷ l) ≡ cond c (y ∷ x ∷ l) (x ∷ y ∷ l)
      go true true e f =
          let s : x ≡ y = same_value x y p.0 q.0 p.1 q.1 (subst T (sym e) tt) (subst T (sym f) tt) in
          ap (λ (z : Float). z ∷ y ∷ l) s ∙ ap (λ (z : Float). y ∷ z ∷ l) (sym s)
      go true false e f = refl
      go false true e f = refl
      go false false e f = absurd (subst T f (not_at_most x y p.0 q.0 e))

put_both : (x y : Float) → Energy x → Energy y → (l : List Float) → put x (put y l) ≡ put y (put x l)
unfolding put
put_both x y p q [] = two x y p q []
put_both x y p q (z ∷ l) = go (le x z) (le y z) refl refl (put_both x y p q l)
  where
    go : (b c : Bool) → le x z ≡ b → le y z ≡ c → put x (put y l) ≡ put y (put x l)
        → put x (cond c (y ∷ z ∷ l) (z ∷ put y l)) ≡ put y (cond b (x ∷ z ∷ l) (z ∷ put x l))
    go true true e f h = rw (e, f) (two x y p q (z ∷ l))
    go true false e f h = rw (e, f) (past (le y x) refl)
      where
        past : (d : Bool) → le y x ≡ d → x ∷ z ∷ put y l ≡ cond d (y ∷ x ∷ z ∷ l) (x ∷ z ∷ put y l)
        past true g = absurd (subst T f (float_le_trans y x z (subst T (sym g) tt) (subst T (sym e) tt)))
        past false g = refl
    go false true e f h = rw (e, f) (past (le x y) refl)
      where
        past : (d : Bool) → le x y ≡ d → cond d (x ∷ y ∷ z ∷ l) (y ∷ z ∷ put x l) ≡ y ∷ z ∷ put x l
        past true g = absurd (subst T e (float_le_trans x y z (subst T (sym g) tt) (subst T (sym f) tt)))
        past false g = refl
    go false false e f h = rw (e, f) (ap (λ (k : List Float). z ∷ k) h)

pub same_order : {l k : List Float} → Reordered l k → All Energy l → in_order l ≡ in_order k
unfolding in_order
same_order (unmoved l) a = refl
same_order (under x p) a = ap (put x) (same_order p a.1)
same_order (swap x y l) a = put_both x y a.0 a.1.0 (in_order l)
same_order (after p q) a = same_order p a ∙ same_order q (all_perm Energy p a)

pub put_first : (x : Float) (l : List Float) → All (λ z. T (le x z)) l → put x l ≡ x ∷ l
unfolding put
put_first x [] h = refl
put_first x (y ∷ l) h = rw (is_true (le x y) h.0)

pub rising_is : (l : List Float) → Rising l → in_order l ≡ l
unfolding in_order
rising_is [] r = refl
rising_is (x ∷ l) r = ap (put x) (rising_is l r.1) ∙ put_first x l r.0

pub the_order : {old new : List Float} → Ordered old new → All Energy old → new ≡ in_order old
the_order {old} {new} o a = sym (rising_is new o.rising) ∙ sym (same_order o.same a)
