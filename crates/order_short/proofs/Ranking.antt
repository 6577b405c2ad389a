-- The place of an energy, counted out, is its place in the order: in a list that rises the energies below x stand first, then those that equal it.
-- Every place is some energy's: from the first energy to the last the count for x goes up by one at each equal of x, and so passes each place that x has.
-- Assumes nothing.
use mathlib.Core.Path.{◌≡◌, refl, sym, ap, ◌∙◌, subst}
use mathlib.Core.Bool.{Bool, true, false, cond}
use mathlib.Core.Logic.{◌⊎◌, inl, inr}
use mathlib.Core.List.{List, [], ◌∷◌}
use Prim.Native.Nat.{ℕ, zero, suc, ◌+◌, ◌≤◌, ◌<◌}
use native.Mathlib.Nat.{le_of_suc-le-suc, not-suc-le-zero}
use native.Mathlib.Decide.{dec_lt}
use native.Mathlib.Omega.{arith}
use lib.Dec.{T}
use lib.ListN.{length, take, drop, set, take-append-drop, length-drop}
use lib.Seq.{take-suc, drop-cons, ext_get_or, get_or-set_same, get_or-set_other, length-take-le, take-length, drop-length}
use lib.Ieee.{Float, nan, le, lt}
use lib.Ieee.Positive.{above}
use Rattle.base_floats.proofs.Order.{is_true, is_false, float_le_trans, lt→le, lt_not_le}
use Rattle.order_rules.specs.Order.{in_order}
use Rattle.base_floats.specs.Entry.{at}
use Rattle.order_rules.specs.Arrangement.{All, Above, Rising}
use Rattle.order_short.specs.Inner.{count, place_of}
use Rattle.order_rules.proofs.Perms.{perm_length, all_perm, all_at, all_map}
use Rattle.order_rules.proofs.Energies.{not_below_lem, same_at_most, same_value}
use Rattle.order_rules.proofs.InOrder.{Energy, in_order_perm, in_order_rises}
use Rattle.order_rules.proofs.Places.{same_or_other}
use Rattle.order_short.proofs.Counting.{count_join, count_perm, count_within, count_more}

abbrev AtMost : Float → Float → Bool
AtMost x y = le y x

abbrev Below : Float → Float → Bool
Below x y = lt y x

not_below_lower : (x y : Float) → T (le x y) → lt y x ≡ false
not_below_lower x y h = is_false (lt y x) (λ t. lt_not_le y x t h)

-- ---- in a list that rises
none_at_most : (x y : Float) → le y x ≡ false → (s : List Float) → All (λ z. T (le y z)) s → count (AtMost x) s ≡ 0
none_at_most x y e [] h = refl
none_at_most x y e (z ∷ s) h = rw (is_false (le z x) (λ t. subst T e (float_le_trans y z x h.0 t))) (omega (arith, none_at_most x y e s h.1))

within_count : (x : Float) (s : List Float) → Rising s → (r : ℕ) → r < count (AtMost x) s → T (le (at s r) x)
within_count x [] rise r h = absurd (not-suc-le-zero h)
within_count x (y ∷ s) rise r h = go (le y x) refl r h (within_count x s rise.1)
  where
    go : (b : Bool) → le y x ≡ b → (r : ℕ) → r < cond b 1 0 + count (AtMost x) s → ((r : ℕ) → r < count (AtMost x) s → T (le (at s r) x))
        → T (le (at (y ∷ s) r) x)
    go true e zero h rec = subst T (sym e) tt
    go true e (suc r) h rec = rec r (omega arith)
    go false e r h rec = absurd (omega (arith, none_at_most x y e s rise.0))

past_count : (x : Float) (s : List Float) → T (above x) → Above s → Rising s
    → (r : ℕ) → count (Below x) s ≤ r → r < length s → T (le x (at s r))
past_count x [] p a rise r h g = absurd (not-suc-le-zero g)
past_count x (y ∷ s) p a rise r h g = go (lt y x) refl r h g (past_count x s p a.1 rise.1)
  where
    go : (b : Bool) → lt y x ≡ b → (r : ℕ) → cond b 1 0 + count (Below x) s ≤ r → r < suc (length s)
        → ((r : ℕ) → count (Below x) s ≤ r → r < length s → T (le x (at s r))) → T (le x (at (y ∷ s) r))
    go true e zero h g rec = absurd (omega arith)
    go true e (suc r) h g rec = rec r (omega arith) (omega arith)
    go false e zero h g rec = not_below_lem y x a.0 p e
    go false e (suc r) h g rec =
        float_le_trans x y (at s r) (not_below_lem y x a.0 p e) (all_at (λ z. T (le y z)) s rise.0 r (omega arith))

-- the energy at r has at most r below it, and more than r at most it
few_below : (s : List Float) → Above s → Rising s → (r : ℕ) → r < length s → count (Below (at s r)) s ≤ r
few_below [] a rise r h = absurd (not-suc-le-zero h)
few_below (y ∷ s) a rise zero h = rw (not_below_lower y y (same_at_most y a.0)) (omega (arith, none s rise.0))
  where
    none : (s : List Float) → All (λ z. T (le y z)) s → count (Below y) s ≡ 0
    none [] h = refl
    none (z ∷ s) h = rw (not_below_lower y z h.0) (omega (arith, none s h.1))
few_below (y ∷ s) a rise (suc r) h = go (lt y (at s r)) (few_below s a.1 rise.1 r (le_of_suc-le-suc h))
  where
    go : (b : Bool) → count (Below (at s r)) s ≤ r → cond b 1 0 + count (Below (at s r)) s ≤ suc r
    go true h = omega arith
    go false h = omega arith

more_at_most : (s : List Float) → Above s → Rising s → (r : ℕ) → r < length s → r < count (AtMost (at s r)) s
more_at_most [] a rise r h = absurd (not-suc-le-zero h)
more_at_most (y ∷ s) a rise zero h = rw (is_true (le y y) (same_at_most y a.0)) (omega arith)
more_at_most (y ∷ s) a rise (suc r) h =
    rw (is_true (le y (at s r)) (all_at (λ z. T (le y z)) s rise.0 r (le_of_suc-le-suc h)))
    (omega (arith, more_at_most s a.1 rise.1 r (le_of_suc-le-suc h)))

-- ---- the count for x up to the energy i, by which place_of goes
counted : Float → List Float → ℕ → ℕ
counted x l i = count (AtMost x) (take i l) + count (Below x) (drop i l)

module _ (x : Float) (l : List Float) where
  counted_start : counted x l 0 ≡ count (Below x) l
  unfolding counted
  counted_start = omega arith

  counted_end : counted x l (length l) ≡ count (AtMost x) l
  unfolding counted
  counted_end = rw (take-length l, drop-length l) (omega arith)

  counted_step : (i : ℕ) → i < length l → counted x l (suc i) + cond (lt (at l i) x) 1 0 ≡ counted x l i + cond (le (at l i) x) 1 0
  unfolding counted
  counted_step i h =
      let taken : count (AtMost x) (take (suc i) l) ≡ count (AtMost x) (take i l) + (cond (le (at l i) x) 1 0 + 0) =
      ap (count (AtMost x)) (take-suc l i nan h) ∙ count_join (AtMost x) (take i l) (at l i ∷ []) in
      let dropped : count (Below x) (drop i l) ≡ cond (lt (at l i) x) 1 0 + count (Below x) (drop (suc i) l) = ap (count (Below x)) (drop-cons l i nan h) in
      omega arith

  -- where the count goes from r to r + 1 stands an equal of x
  record Equal (r : ℕ) : Type 0 where
    place : ℕ
    inside : place < length l
    count_is : counted x l place ≡ r
    low : T (le (at l place) x)
    high : lt (at l place) x ≡ false

  turn : (r n : ℕ) → n < length l → counted x l n ≤ r → r < counted x l (suc n) → Equal r
  turn r n h a b = go (le (at l n) x) (lt (at l n) x) refl refl (counted_step n h)
    where
      go : (p q : Bool) → le (at l n) x ≡ p → lt (at l n) x ≡ q → counted x l (suc n) + cond q 1 0 ≡ counted x l n + cond p 1 0 → Equal r
      go true false e f s = record { place = n; inside = h; count_is = omega arith; low = subst T (sym e) tt; high = f }
      go true true e f s = absurd (omega arith)
      go false true e f s = absurd (omega arith)
      go false false e f s = absurd (omega arith)

  crossing : (r n : ℕ) → n ≤ length l → counted x l 0 ≤ r → r < counted x l n → Equal r
  crossing r zero h a b = absurd (omega arith)
  crossing r (suc n) h a b = go (dec_lt r (counted x l n)) (crossing r n (omega arith) a)
    where
      go : Dec (r < counted x l n) → (r < counted x l n → Equal r) → Equal r
      go (yes c) rec = rec c
      go (no c) rec = turn r n h (omega arith) b

-- ---- the place is inside, whatever the energies are: none is below itself
not_below_itself : (x : Float) → lt x x ≡ false
not_below_itself x = is_false (lt x x) (λ t. lt_not_le x x t (lt→le x x t))

pub place_inside : (l : List Float) (i : ℕ) → i < length l → place_of l i < length l
place_inside l i h =
    let rest = ap (count (Below (at l i))) (drop-cons l i nan h) in
    omega (
      arith,
      rest ∙ ap (λ (b : Bool). cond b 1 0 + count (Below (at l i)) (drop (suc i) l)) (not_below_itself (at l i)),
      count_within (AtMost (at l i)) (take i l),
      count_within (Below (at l i)) (drop (suc i) l),
      length-take-le i l (omega arith),
      length-drop (suc i) l,
    )

module _ (l : List Float) (a : All Energy l) where
  s : List Float
  s = in_order l

  are : All Energy s
  unfolding s
  are = all_perm Energy (in_order_perm l) a

  all_high : Above s
  all_high = all_map (λ x p. p.0) s are

  rise : Rising s
  unfolding s
  rise = in_order_rises l (all_map (λ x p. p.0) l a)

  same_count : (test : Float → Bool) → count test l ≡ count test s
  unfolding s
  same_count test = count_perm test (in_order_perm l)

  same_length : length l ≡ length s
  unfolding s
  same_length = perm_length (in_order_perm l)

  module _ (i : ℕ) (h : i < length l) where
    x : Float
    x = at l i

    -- place_of is at least the number below x, and less than the number at most x
    least : count (Below x) l ≤ place_of l i
    unfolding x
    least =
        let split = ap (count (Below (at l i))) (take-append-drop i l) in
        omega (
          arith,
          split,
          count_join (Below (at l i)) (take i l) (drop i l),
          count_more (Below (at l i)) (AtMost (at l i)) (λ y t. lt→le y (at l i) t) (take i l),
        )

    most : place_of l i < count (AtMost x) l
    unfolding x
    most =
        let split = ap (count (AtMost (at l i))) (take-append-drop i l) in
        let rest = ap (count (AtMost (at l i))) (drop-cons l i nan h) in
        let rest_below = ap (count (Below (at l i))) (drop-cons l i nan h) in
        let self : le (at l i) (at l i) ≡ true = is_true (le (at l i) (at l i)) (same_at_most (at l i) (all_at Energy l a i h).0) in
        let not_self : lt (at l i) (at l i) ≡ false = not_below_lower (at l i) (at l i) (subst T (sym self) tt) in
        omega (
          arith,
          split,
          rest ∙ ap (λ (b : Bool). cond b 1 0 + count (AtMost (at l i)) (drop (suc i) l)) self,
          rest_below ∙ ap (λ (b : Bool). cond b 1 0 + count (Below (at l i)) (drop (suc i) l)) not_self,
          count_join (AtMost (at l i)) (take i l) (drop i l),
          count_more (Below (at l i)) (AtMost (at l i)) (λ y t. lt→le y (at l i) t) (drop (suc i) l),
        )

    pub place_holds : at l i ≡ at (in_order l) (place_of l i)
    unfolding s x
    place_holds =
        let r = place_of l i in
        let r_in : r < length s = omega (arith, place_inside l i h, same_length) in
        let mine = all_at Energy l a i h in
        let its = all_at Energy s are r r_in in
        same_value (at l i) (at s r) mine.0 its.0 mine.1 its.1
        (past_count (at l i) s mine.0 all_high rise r (omega (arith, least, same_count (Below (at l i)))) r_in)
        (within_count (at l i) s rise r (omega (arith, most, same_count (AtMost (at l i)))))

  -- every place is some energy's
  pub record Holder (r : ℕ) : Type 0 where
    pub place : ℕ
    pub inside : place < length l
    pub is : place_of l place ≡ r

  pub holder : (r : ℕ) → r < length l → Holder r
  unfolding counted
  holder r h =
      let r_in : r < length s = omega (arith, same_length) in
      let y = at s r in
      let low : counted y l 0 ≤ r = omega (arith, counted_start y l, same_count (Below y), few_below s all_high rise r r_in) in
      let high : r < counted y l (length l) = omega (arith, counted_end y l, same_count (AtMost y), more_at_most s all_high rise r r_in) in
      let found = crossing y l r (length l) (omega arith) low high in
      let mine = all_at Energy l a found.place found.inside in
      let its = all_at Energy s are r r_in in
      let equal : at l found.place ≡ y =
      same_value (at l found.place) y mine.0 its.0 mine.1 its.1 found.low
      (not_below_lem (at l found.place) y mine.0 its.0 found.high) in
      record { place = found.place; inside = found.inside; is = ap (λ (z : Float). counted z l found.place) equal ∙ found.count_is }

-- ---- the first i energies are in their places
abbrev pub Placed : ℕ → List Float → List Float → Type 0
Placed i l places = (k : ℕ) → k < i → at places (place_of l k) ≡ at (in_order l) (place_of l k)

module _ (l : List Float) (a : All Energy l) (i : ℕ) (places : List Float) (long : length places ≡ length l) (p : Placed i l places) where
  pub placed_on : i < length l → Placed (i + 1) l (set places (place_of l i) (at l i))
  placed_on h k g = go (same_or_other k i) (same_or_other (place_of l k) (place_of l i))
    where
      new : List Float
      new = set places (place_of l i) (at l i)

      here : at new (place_of l i) ≡ at (in_order l) (place_of l i)
      here = get_or-set_same places (place_of l i) (at l i) nan (omega (arith, place_inside l i h)) ∙ place_holds l a i h

      go : (k ≡ i) ⊎ (k ≡ i → ⊥) → (place_of l k ≡ place_of l i) ⊎ (place_of l k ≡ place_of l i → ⊥)
          → at new (place_of l k) ≡ at (in_order l) (place_of l k)
      go b (inl e) = ap (at new) e ∙ here ∙ ap (at (in_order l)) (sym e)
      go (inl e) (inr n) = absurd (n (ap (place_of l) e))
      go (inr m) (inr n) = get_or-set_other places (place_of l i) (place_of l k) (at l i) nan n ∙ p k (omega arith)

  pub all_placed : length l ≤ i → places ≡ in_order l
  all_placed whole =
      ext_get_or nan places (in_order l) (long ∙ perm_length (in_order_perm l))
      (λ r g.
      let it = holder l a r (omega arith) in
      ap (at places) (sym it.is) ∙ p it.place (omega (arith, it.inside)) ∙ ap (at (in_order l)) it.is)
