-- A part that is split, and whose two sides are then ordered, is in order. Ordering the first side settles every place up to the second:
-- what is settled is so whichever way the energies before it stand, since each of them is at most each that follows. Assumes nothing.
use mathlib.Core.Path.{◌≡◌, refl, sym, ap, ◌∙◌, subst}
use mathlib.Core.Logic.{◌⊎◌, inl, inr}
use mathlib.Core.List.{List, ◌++◌, append-nil}
use Prim.Native.Nat.{ℕ, ◌+◌, ◌-◌, ◌≤◌, ◌<◌}
use native.Mathlib.Decide.{dec_lt}
use native.Mathlib.Omega.{arith}
use lib.Dec.{T}
use lib.ListN.{length, take, drop, length-drop, drop_of_length-le, get_or-append}
use lib.Seq.{length-take-le, get_or-take, get_or-drop, get_or-append-add}
use lib.Ieee.{Float, nan, le}
use lib.Ieee.Positive.{above}
use Rattle.base_floats.specs.Entry.{at}
use Rattle.order_rules.specs.Arrangement.{Reordered, after, All, Above, Ordered}
use Rattle.order_split.specs.Inner.{Lowest, Parted}
use Rattle.order_rules.proofs.Perms.{perm_length, front_perm, back_perm, all_perm, all_at, all_of}
use Rattle.order_rules.proofs.Energies.{same_at_most}
use Rattle.order_rules.proofs.Places.{le_by, same_or_other, front_at, back_at, last_part, rising_of, rising_at}

pub parted_from : {from to : ℕ} {old mid new : List Float} → Reordered old mid → Parted from to mid new → Parted from to old new
parted_from p s = record { same = after p s.same; ordered = s.ordered; inside = s.inside; settled = s.settled }

-- what is at most every later energy, at place 0, is the lowest
pub lowest_of : {old new : List Float} → Above new → Parted 0 1 old new → Lowest new
lowest_of {old} {new} a s = λ k h. go k h (same_or_other k 0)
  where
    go : (k : ℕ) → k < length new → (k ≡ 0) ⊎ (k ≡ 0 → ⊥) → T (le (at new 0) (at new k))
    go k h (inl e) = le_by refl (ap (at new) e) (same_at_most (at new 0) (all_at (λ x. T (above x)) new a 0 (omega arith)))
    go k h (inr n) = s.settled 0 k (omega arith) (omega arith) (omega arith) h

-- ---- the first side is ordered
module _ {from to : ℕ} {old new : List Float} (s : Parted from to old new) (side : List Float) (o : Ordered (take from new) side) where
  inside : from ≤ length new
  inside = omega (arith, s.ordered, s.inside)

  long : length side ≡ from
  long = sym (perm_length o.same) ∙ length-take-le from new inside

  turn : Reordered new (side ++ drop from new)
  turn = front_perm from new side o.same

  first_length : length (side ++ drop from new) ≡ length new
  first_length = sym (perm_length turn)

  under : (j : ℕ) → from ≤ j → j < length new → All (λ x. T (le x (at new j))) side
  under j a b =
      all_perm (λ x. T (le x (at new j))) o.same
      (all_of (λ x. T (le x (at new j))) (take from new)
      (λ k h. let k_in : k < from = omega (arith, length-take-le from new inside) in
      le_by (get_or-take from new k nan k_in) refl (s.settled k j (omega arith) (omega (arith, s.ordered)) a b)))

  pairs : (i j : ℕ) → i < j → i < to → j < length new → Dec (i < from) → Dec (j < from)
      → T (le (at (side ++ drop from new) i) (at (side ++ drop from new) j))
  pairs i j h a b (yes p) (yes q) =
      le_by (front_at new side from long i p) (front_at new side from long j q) (rising_at side o.rising i j h (omega (arith, long)))
  pairs i j h a b (yes p) (no q) =
      let past : from ≤ j = omega arith in
      le_by (front_at new side from long i p) (back_at new side from long j past) (all_at (λ x. T (le x (at new j))) side (under j past b) i (omega (arith, long)))
  pairs i j h a b (no p) (yes q) = absurd (omega arith)
  pairs i j h a b (no p) (no q) =
      le_by (back_at new side from long i (omega arith)) (back_at new side from long j (omega arith)) (s.settled i j h a (omega arith) b)

  pub first_side : Parted 0 to old (side ++ drop from new)
  first_side = record {
    same = after s.same turn;
    ordered = omega arith;
    inside = omega (arith, s.inside, first_length);
    settled = λ i j h a b g. pairs i j h a (subst (λ (n : ℕ). j < n) first_length g) (dec_lt i from) (dec_lt j from);
  }

-- ---- then the second
module _ {to : ℕ} {old new : List Float} (s : Parted 0 to old new) (side : List Float) (o : Ordered (drop to new) side) where
  kept_length : length (take to new) ≡ to
  kept_length = length-take-le to new s.inside

  side_length : length side ≡ length new - to
  side_length = sym (perm_length o.same) ∙ length-drop to new

  whole : List Float
  whole = take to new ++ side

  moved : Reordered new whole
  unfolding whole
  moved = back_perm to new side o.same

  whole_length : length whole ≡ length new
  whole_length = sym (perm_length moved)

  at_kept : (k : ℕ) → k < to → at whole k ≡ at new k
  unfolding whole
  at_kept k h = get_or-append (take to new) side nan k (omega (arith, kept_length)) ∙ get_or-take to new k nan h

  at_side : (k : ℕ) → to ≤ k → at whole k ≡ at side (k - to)
  unfolding whole
  at_side k h =
      let split : k ≡ length (take to new) + (k - to) = omega (arith, kept_length) in
      ap (at (take to new ++ side)) split ∙ get_or-append-add (take to new) side (k - to) nan

  over : (i : ℕ) → i < to → All (λ y. T (le (at new i) y)) side
  over i a =
      all_perm (λ y. T (le (at new i) y)) o.same
      (all_of (λ y. T (le (at new i) y)) (drop to new)
      (λ k h. le_by refl (get_or-drop to new k nan) (s.settled i (to + k) (omega arith) a (omega arith) (omega (arith, length-drop to new)))))

  second_pairs : (i j : ℕ) → i < j → j < length new → Dec (i < to) → Dec (j < to) → T (le (at whole i) (at whole j))
  second_pairs i j h b (yes p) (yes q) = le_by (at_kept i p) (at_kept j q) (s.settled i j h p (omega arith) b)
  second_pairs i j h b (yes p) (no q) =
      le_by (at_kept i p) (at_side j (omega arith)) (all_at (λ y. T (le (at new i) y)) side (over i p) (j - to) (omega (arith, side_length)))
  second_pairs i j h b (no p) (yes q) = absurd (omega arith)
  second_pairs i j h b (no p) (no q) =
      le_by (at_side i (omega arith)) (at_side j (omega arith)) (rising_at side o.rising (i - to) (j - to) (omega arith) (omega (arith, side_length)))

  second_side : Ordered old (take to new ++ side)
  unfolding whole
  second_side = record {
    same = after s.same moved;
    rising = rising_of whole (λ i j h g. second_pairs i j h (subst (λ (n : ℕ). j < n) whole_length g) (dec_lt i to) (dec_lt j to));
  }

-- the second side as a lent part is
pub both_sides : {to : ℕ} {old new : List Float} → Parted 0 to old new → (side : List Float) → Ordered (take (length new - to) (drop to new)) side
    → Ordered old (take to new ++ (side ++ drop (length new - to) (drop to new)))
both_sides {to} {old} {new} s side o =
    rw (drop_of_length-le (drop to new) {i = length new - to} (omega (arith, length-drop to new)), append-nil side)
    (second_side s side (subst (λ (l : List Float). Ordered l side) (last_part to new) o))
