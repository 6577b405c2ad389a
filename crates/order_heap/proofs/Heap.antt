-- The heap: an energy that sinks keeps every other pair of child and parent in order, the top of a heap is at least every energy in it,
-- and what is taken from the top, one after the other, falls. Assumes nothing.
use mathlib.Core.Path.{◌≡◌, refl, sym, ap, ◌∙◌, subst}
use mathlib.Core.Logic.{◌⊎◌, inl, inr}
use mathlib.Core.List.{List, ◌++◌}
use Prim.Native.Nat.{ℕ, zero, suc, ◌+◌, ◌*◌, ◌-◌, ◌/◌, ◌≤◌, ◌<◌}
use native.Mathlib.Omega.{arith}
use lib.Dec.{T}
use native.Mathlib.Decide.{dec_lt}
use lib.ListN.{length, take, drop}
use lib.Seq.{get_or-take, length-take-le, take-length, take_at}
use lib.Ieee.{Float, nan, le, lt}
use mathlib.Core.Bool.{true, false}
use Rattle.base_floats.proofs.Order.{float_le_trans, lt→le}
use lib.Ieee.Positive.{above}
use Rattle.base_floats.specs.Entry.{at}
use Rattle.order_rules.specs.Arrangement.{Reordered, unmoved, after, All, Above, Ordered, exchanged}
use Rattle.order_heap.specs.Inner.{Child, Larger, HeapFrom, Heaped}
use Rattle.order_rules.proofs.Perms.{perm_length, front_perm, all_perm, all_at, all_of, all_take}
use Rattle.order_rules.proofs.Energies.{same_at_most, not_below_lem, not_at_most}
use Rattle.order_rules.proofs.Places.{le_by, same_or_other, Exchange, exchange_is, front_at, back_at, rising_of}

-- ---- of two children the one that is not below the other
module _ (l : List Float) (a : Above l) (p : ℕ) (inside : 2 * p + 1 < length l) where
  fine : (k : ℕ) → k < length l → T (above (at l k))
  fine k g = all_at (λ x. T (above x)) l a k g

  pub left_only : length l ≤ 2 * p + 1 + 1 → Larger p l (2 * p + 1)
  left_only e = record {
    child = (omega arith, omega arith);
    inside = inside;
    largest = λ k c g.
        let q : k ≡ 2 * p + 1 = omega arith in
        le_by (ap (at l) q) refl (same_at_most (at l (2 * p + 1)) (fine (2 * p + 1) inside));
  }

  -- r and o are the two children
  larger_is : (r o : ℕ) → r < length l → Child p r → ((k : ℕ) → Child p k → (k ≡ r → ⊥) → k ≡ o)
      → T (le (at l o) (at l r)) → Larger p l r
  larger_is r o g c one h = record {
    child = c;
    inside = g;
    largest = λ k d b. go k d (same_or_other k r);
  }
    where
      go : (k : ℕ) → Child p k → (k ≡ r) ⊎ (k ≡ r → ⊥) → T (le (at l k) (at l r))
      go k d (inl e) = le_by (ap (at l) e) refl (same_at_most (at l r) (fine r g))
      go k d (inr n) = le_by (ap (at l) (one k d n)) refl h

  module _ (both_inside : 2 * p + 1 + 1 < length l) where
    pub right_larger : lt (at l (2 * p + 1)) (at l (2 * p + 1 + 1)) ≡ true → Larger p l (2 * p + 1 + 1)
    right_larger h =
        larger_is (2 * p + 1 + 1) (2 * p + 1) both_inside (omega arith, omega arith) (λ k c n. omega arith)
        (lt→le (at l (2 * p + 1)) (at l (2 * p + 1 + 1)) (subst T (sym h) tt))

    pub left_larger : lt (at l (2 * p + 1)) (at l (2 * p + 1 + 1)) ≡ false → Larger p l (2 * p + 1)
    left_larger h =
        larger_is (2 * p + 1) (2 * p + 1 + 1) inside (omega arith, omega arith) (λ k c n. omega arith)
        (not_below_lem (at l (2 * p + 1)) (at l (2 * p + 1 + 1)) (fine (2 * p + 1) inside) (fine (2 * p + 1 + 1) both_inside) h)

-- ---- an energy sinks: only the children of its place may be above it, and those are not above its parent
pub record Sinking (from place : ℕ) (old new : List Float) : Type 0 where
  pub same : Reordered old new
  pub above : Above new
  pub reach : from ≤ place
  pub heap : (p k : ℕ) → from ≤ p → (p ≡ place → ⊥) → Child p k → k < length new → T (le (at new k) (at new p))
  pub over : (p k : ℕ) → from ≤ p → Child p place → Child place k → k < length new → T (le (at new k) (at new p))

pub sink_start : (from : ℕ) (l : List Float) → Above l → HeapFrom (from + 1) l → Sinking from from l l
sink_start from l a h = record {
  same = unmoved l;
  above = a;
  reach = omega arith;
  heap = λ p k f n c g. h p k (above_from p f n) c g;
  over = λ p k f c d g. absurd (omega arith);
}
  where
    above_from : (p : ℕ) → from ≤ p → (p ≡ from → ⊥) → from + 1 ≤ p
    above_from p f n = omega arith

module _ {from place : ℕ} {old new : List Float} (s : Sinking from place old new) where
  -- it rests where it has no child, or none above it
  pub sink_leaf : length new / 2 ≤ place → Heaped from old new
  sink_leaf e = record {
    same = s.same;
    heap = λ p k f c g. go p k f c g (same_or_other p place);
  }
    where
      go : (p k : ℕ) → from ≤ p → Child p k → k < length new → (p ≡ place) ⊎ (p ≡ place → ⊥) → T (le (at new k) (at new p))
      go p k f c g (inl q) = absurd (omega arith)
      go p k f c g (inr n) = s.heap p k f n c g

  module _ (child : ℕ) (larger : Larger place new child) where
    c : Child place child
    c = larger.child

    inside : child < length new
    inside = larger.inside

    largest : (k : ℕ) → Child place k → k < length new → T (le (at new k) (at new child))
    largest = larger.largest

    pub sink_rests : le (at new child) (at new place) ≡ true → Heaped from old new
    sink_rests e = record {
      same = s.same;
      heap = λ p k f d g. go p k f d g (same_or_other p place);
    }
      where
        go : (p k : ℕ) → from ≤ p → Child p k → k < length new → (p ≡ place) ⊎ (p ≡ place → ⊥) → T (le (at new k) (at new p))
        go p k f d g (inl q) =
            subst (λ (r : ℕ). T (le (at new k) (at new r))) (sym q)
            (float_le_trans (at new k) (at new child) (at new place) (largest k (subst (λ (r : ℕ). Child r k) q d) g) (subst T (sym e) tt))
        go p k f d g (inr n) = s.heap p k f n d g

    moved : List Float
    moved = exchanged new place child

    place_inside : place < length new
    place_inside = omega arith

    swap : Exchange new place child moved
    unfolding moved
    swap = exchange_is new place child place_inside inside refl

    -- the larger child is now the parent: the other child is not above it, and it is not above the parent of the place
    under_place : T (le (at new place) (at new child)) → (k : ℕ) → Child place k → k < length new → (k ≡ child) ⊎ (k ≡ child → ⊥)
        → T (le (at moved k) (at new child))
    under_place h k d g (inl e) = le_by (ap (at moved) e ∙ swap.second) refl h
    under_place h k d g (inr n) = le_by (swap.other k (λ q. omega arith) n) refl (largest k d g)

    elsewhere : (p k : ℕ) → from ≤ p → (p ≡ place → ⊥) → (p ≡ child → ⊥) → Child p k → k < length new
        → (k ≡ place) ⊎ (k ≡ place → ⊥) → T (le (at moved k) (at moved p))
    elsewhere p k f n m d g (inl e) =
        le_by (ap (at moved) e ∙ swap.first) (swap.other p n m) (s.over p child f (subst (λ (r : ℕ). Child p r) e d) c inside)
    elsewhere p k f n m d g (inr o) = le_by (swap.other k o (λ e. n (omega arith))) (swap.other p n m) (s.heap p k f n d g)

    kept : T (le (at new place) (at new child)) → (p k : ℕ) → from ≤ p → (p ≡ child → ⊥) → Child p k → k < length new
        → (p ≡ place) ⊎ (p ≡ place → ⊥) → T (le (at moved k) (at moved p))
    kept h p k f m d g (inl e) = le_by refl (ap (at moved) e ∙ swap.first) (under_place h k (subst (λ (r : ℕ). Child r k) e d) g (same_or_other k child))
    kept h p k f m d g (inr n) = elsewhere p k f n m d g (same_or_other k place)

    grand : (p k : ℕ) → Child p child → Child child k → k < length new → T (le (at moved k) (at moved p))
    grand p k d b g =
        let e : p ≡ place = omega arith in
        le_by (swap.other k (λ q. omega arith) (λ q. omega arith)) (ap (at moved) e ∙ swap.first)
        (s.heap child k (omega (arith, s.reach)) (λ q. omega arith) b g)

    sunk : le (at new child) (at new place) ≡ false → Sinking from child old moved
    sunk e =
        let over : T (le (at new place) (at new child)) = not_at_most (at new child) (at new place) (fine child inside) (fine place place_inside) e in
        record {
          same = after s.same swap.turn;
          above = all_perm (λ x. T (above x)) swap.turn s.above;
          reach = omega (arith, s.reach);
          heap = λ p k f m d g. kept over p k f m d (subst (λ (n : ℕ). k < n) swap.long g) (same_or_other p place);
          over = λ p k f d b g. grand p k d b (subst (λ (n : ℕ). k < n) swap.long g);
        }
      where
        fine : (k : ℕ) → k < length new → T (above (at new k))
        fine k g = all_at (λ x. T (above x)) new s.above k g

    pub sink_on : le (at new child) (at new place) ≡ false → (next : List Float) → next ≡ exchanged new place child → Sinking from child old next
    unfolding moved
    sink_on e next is = subst (Sinking from child old) (sym is) (sunk e)

-- ---- from the middle on no place has a child
pub heap_start : (l : List Float) (from : ℕ) → from ≡ length l / 2 → HeapFrom from l
heap_start l from e = λ p k f c g. absurd (omega arith)

-- ---- the top is at least every energy
none : (k : ℕ) → k ≤ 0 → k ≡ 0
none k h = omega arith

top_most : (l : List Float) → Above l → HeapFrom 0 l → (n k : ℕ) → k ≤ n → k < length l → T (le (at l k) (at l 0))
top_most l a h zero k b g =
    subst (λ (r : ℕ). T (le (at l r) (at l 0))) (sym (none k b)) (same_at_most (at l 0) (all_at (λ x. T (above x)) l a 0 (omega arith)))
top_most l a h (suc n) k b g = go k b g (top_most l a h n)
  where
    go : (k : ℕ) → k ≤ suc n → k < length l → ((m : ℕ) → m ≤ n → m < length l → T (le (at l m) (at l 0))) → T (le (at l k) (at l 0))
    go zero b g rec = rec 0 (omega arith) g
    go (suc k) b g rec =
        float_le_trans (at l (suc k)) (at l (k / 2)) (at l 0) (h (k / 2) (suc k) (omega arith) (omega arith, omega arith) g)
        (rec (k / 2) (omega arith) (omega arith))

pub top : (l : List Float) → Above l → HeapFrom 0 l → (k : ℕ) → k < length l → T (le (at l k) (at l 0))
top l a h k g = top_most l a h k k (omega arith) g

-- ---- the top is taken away: before the place `left` stands a heap, and from there on each energy is at least all before it
pub record Draining (left : ℕ) (old new : List Float) : Type 0 where
  pub same : Reordered old new
  pub above : Above new
  pub inside : left ≤ length new
  pub heap : HeapFrom 0 (take left new)
  pub tail : (i j : ℕ) → i < j → left ≤ j → j < length new → T (le (at new i) (at new j))

pub drain_start : (l : List Float) → Above l → HeapFrom 0 l → Draining (length l) l l
drain_start l a h = record {
  same = unmoved l;
  above = a;
  inside = omega arith;
  heap = rw (take-length l) h;
  tail = λ i j g k n. absurd (omega arith);
}

pub drain_done : (left : ℕ) (old new : List Float) → left ≤ 1 → Draining left old new → Ordered old new
drain_done left old new h d = record { same = d.same; rising = rising_of new (λ i j g k. d.tail i j g (omega arith) k) }

module _ (left : ℕ) (old new : List Float) (d : Draining left old new) (more : 1 < left) (taken : List Float) (is : taken ≡ exchanged new 0 (left - 1)) where
  m : ℕ
  m = left - 1

  m_is : m + 1 ≡ left
  unfolding m
  m_is = omega arith

  short : m < length new
  short = omega (arith, m_is, d.inside)

  none_taken : 0 < length new
  none_taken = omega (arith, d.inside)

  to_end : Exchange new 0 m taken
  unfolding m
  to_end = exchange_is new 0 m none_taken short is

  part_length : length (take m taken) ≡ m
  part_length = length-take-le m taken (omega (arith, short, to_end.long))

  in_part : (k : ℕ) → k < m → at (take m taken) k ≡ at taken k
  in_part k h = get_or-take m taken k nan h

  in_heap : (k : ℕ) → k < left → at (take left new) k ≡ at new k
  in_heap k h = get_or-take left new k nan h

  heap_length : length (take left new) ≡ left
  heap_length = length-take-le left new d.inside

  part_heap : HeapFrom 1 (take m taken)
  part_heap p k f c g =
      let k_in : k < m = omega (arith, part_length) in
      le_by (in_part k k_in ∙ to_end.other k (λ e. omega arith) (λ e. omega arith) ∙ sym (in_heap k (omega (arith, m_is))))
      (in_part p (omega arith) ∙ to_end.other p (λ e. omega arith) (λ e. omega arith) ∙ sym (in_heap p (omega (arith, m_is))))
      (d.heap p k (omega arith) c (omega (arith, m_is, heap_length)))

  highest : (k : ℕ) → k < left → T (le (at new k) (at new 0))
  highest k h =
      le_by (sym (in_heap k h)) (sym (in_heap 0 (omega arith)))
      (top (take left new) (all_take (λ x. T (above x)) left new d.above) d.heap k (omega (arith, heap_length)))

  -- an energy of the part is not above one from the place m on
  under : (j : ℕ) → m ≤ j → j < length new → (k : ℕ) → k < m → T (le (at taken k) (at taken j))
  under j a b k h = go (same_or_other j m) (same_or_other k 0)
    where
      go : (j ≡ m) ⊎ (j ≡ m → ⊥) → (k ≡ 0) ⊎ (k ≡ 0 → ⊥) → T (le (at taken k) (at taken j))
      go (inl e) (inl z) = le_by (ap (at taken) z ∙ to_end.first) (ap (at taken) e ∙ to_end.second) (highest m (omega (arith, m_is)))
      go (inl e) (inr n) = le_by (to_end.other k n (λ q. omega arith)) (ap (at taken) e ∙ to_end.second) (highest k (omega (arith, m_is)))
      go (inr o) (inl z) = le_by (ap (at taken) z ∙ to_end.first) (to_end.other j (λ q. omega arith) o) (d.tail m j (omega arith) (omega (arith, m_is)) b)
      go (inr o) (inr n) = le_by (to_end.other k n (λ q. omega arith)) (to_end.other j (λ q. omega arith) o) (d.tail k j (omega arith) (omega (arith, m_is)) b)

  beyond : (i j : ℕ) → i < j → m ≤ i → j < length new → T (le (at taken i) (at taken j))
  beyond i j h a b = go (same_or_other i m)
    where
      go : (i ≡ m) ⊎ (i ≡ m → ⊥) → T (le (at taken i) (at taken j))
      go (inl e) =
          le_by (ap (at taken) e ∙ to_end.second) (to_end.other j (λ q. omega arith) (λ q. omega arith))
          (d.tail 0 j (omega arith) (omega (arith, m_is)) b)
      go (inr o) =
          le_by (to_end.other i (λ q. omega arith) o) (to_end.other j (λ q. omega arith) (λ q. omega arith))
          (d.tail i j h (omega (arith, m_is)) b)

  module _ (part : List Float) (h : Heaped 0 (take m taken) part) where
    whole : List Float
    whole = part ++ drop m taken

    part_is : length part ≡ m
    part_is = sym (perm_length h.same) ∙ part_length

    moved_on : Reordered taken whole
    unfolding whole
    moved_on = front_perm m taken part h.same

    whole_length : length whole ≡ length new
    whole_length = sym (perm_length moved_on) ∙ to_end.long

    front : (k : ℕ) → k < m → at whole k ≡ at part k
    unfolding whole
    front = front_at taken part m part_is

    back : (k : ℕ) → m ≤ k → at whole k ≡ at taken k
    unfolding whole
    back = back_at taken part m part_is

    under_all : (j : ℕ) → m ≤ j → j < length new → All (λ x. T (le x (at taken j))) part
    under_all j a b =
        all_perm (λ x. T (le x (at taken j))) h.same
        (all_of (λ x. T (le x (at taken j))) (take m taken)
        (λ k g. le_by (in_part k (omega (arith, part_length))) refl (under j a b k (omega (arith, part_length)))))

    new_tail : (i j : ℕ) → i < j → m ≤ j → j < length new → Dec (i < m) → T (le (at whole i) (at whole j))
    new_tail i j g a b (yes l) =
        le_by (front i l) (back j a) (all_at (λ x. T (le x (at taken j))) part (under_all j a b) i (omega (arith, part_is)))
    new_tail i j g a b (no n) = let l : m ≤ i = omega arith in le_by (back i l) (back j a) (beyond i j g l b)

    drained : Draining m old whole
    unfolding whole
    drained = record {
      same = after d.same (after to_end.turn moved_on);
      above = all_perm (λ x. T (above x)) (after to_end.turn moved_on) d.above;
      inside = omega (arith, short, whole_length);
      heap = rw (take_at part (drop m taken) m part_is) h.heap;
      tail = λ i j g a b. new_tail i j g a (subst (λ (n : ℕ). j < n) whole_length b) (dec_lt i m);
    }

-- the same, with the place written out
module _ {left : ℕ} {old new : List Float} (d : Draining left old new) (more : 1 < left) {taken : List Float} (is : taken ≡ exchanged new 0 (left - 1)) where
  pub part_above : Above (take (left - 1) taken)
  part_above = all_take (λ x. T (above x)) (left - 1) taken (all_perm (λ x. T (above x)) (to_end left old new d more taken is).turn d.above)

  pub part_is_heap : HeapFrom 1 (take (left - 1) taken)
  unfolding m
  part_is_heap = part_heap left old new d more taken is

  pub drain_on : (part : List Float) → Heaped 0 (take (left - 1) taken) part → Draining (left - 1) old (part ++ drop (left - 1) taken)
  unfolding m whole
  drain_on part h = drained left old new d more taken is part h
