-- A part is split around its first energy, the pivot: from place 1 up to `low` stand energies at most the pivot, from there up to i energies at least the pivot.
-- Each turn exchanges the energies at i and `low`. At the end the pivot goes between the two. Assumes nothing.
use mathlib.Core.Path.{◌≡◌, refl, sym, ap, ◌∙◌, subst}
use mathlib.Core.Bool.{Bool, true, false}
use mathlib.Core.Logic.{◌⊎◌, inl, inr}
use mathlib.Core.List.{List}
use Prim.Native.Nat.{ℕ, ◌+◌, ◌-◌, ◌≤◌, ◌<◌}
use native.Mathlib.Omega.{arith}
use lib.Dec.{T}
use lib.ListN.{length}
use lib.Ieee.{Float, le}
use Rattle.base_floats.proofs.Order.{float_le_trans}
use lib.Ieee.Positive.{above}
use Rattle.base_floats.specs.Entry.{at}
use Rattle.order_rules.specs.Arrangement.{Reordered, unmoved, after, All, Above, exchanged}
use Rattle.order_split.specs.Inner.{Lowest, Splits, Parting, Parted}
use Rattle.order_rules.proofs.Perms.{all_perm, all_at, all_of}
use Rattle.order_rules.proofs.Places.{le_by, same_or_other, Exchange, exchange_is}

pub part_start : (l : List Float) → 0 < length l → Above l → Parting (at l 0) 1 1 l l
part_start l h a = record {
  same = unmoved l;
  above = a;
  first = refl;
  some = omega arith;
  within = omega arith;
  inside = h;
  below = λ k g f. absurd (omega arith);
  over = λ k g f. absurd (omega arith);
}

module _ {pivot : Float} {low i : ℕ} {old new : List Float} (s : Parting pivot low i old new) (more : i < length new) where
  turned : List Float
  turned = exchanged new i low

  low_inside : low < length new
  low_inside = omega (arith, s.within)

  swap : Exchange new i low turned
  unfolding turned
  swap = exchange_is new i low more low_inside refl

  kept_first : at turned 0 ≡ pivot
  kept_first = swap.other 0 (λ q. omega (arith, s.some, s.within)) (λ q. omega (arith, s.some)) ∙ s.first

  kept_below : (k : ℕ) → 0 < k → k < low → T (le (at turned k) pivot)
  kept_below k g f = le_by (swap.other k (λ q. omega (arith, s.within)) (λ q. omega arith)) refl (s.below k g f)

  module _ (h : T (le (at new i) pivot)) where
    low_below : (k : ℕ) → 0 < k → k < low + 1 → (k ≡ low) ⊎ (k ≡ low → ⊥) → T (le (at turned k) pivot)
    low_below k g f (inl e) = le_by (ap (at turned) e ∙ swap.second) refl h
    low_below k g f (inr n) = kept_below k g (omega arith)

    low_over : (k : ℕ) → low + 1 ≤ k → k < i + 1 → (k ≡ i) ⊎ (k ≡ i → ⊥) → T (le pivot (at turned k))
    low_over k g f (inl e) = le_by refl (ap (at turned) e ∙ swap.first) (s.over low (omega arith) (omega arith))
    low_over k g f (inr n) = le_by refl (swap.other k n (λ q. omega arith)) (s.over k (omega arith) (omega arith))

    part_low : Parting pivot (low + 1) (i + 1) old (exchanged new i low)
    unfolding turned
    part_low = record {
      same = after s.same swap.turn;
      above = all_perm (λ x. T (above x)) swap.turn s.above;
      first = kept_first;
      some = omega arith;
      within = omega (arith, s.within);
      inside = omega (arith, swap.long);
      below = λ k g f. low_below k g f (same_or_other k low);
      over = λ k g f. low_over k g f (same_or_other k i);
    }

  module _ (h : T (le pivot (at new i))) where
    high_over : (k : ℕ) → low ≤ k → k < i + 1 → (k ≡ low) ⊎ (k ≡ low → ⊥) → (k ≡ i) ⊎ (k ≡ i → ⊥) → T (le pivot (at turned k))
    high_over k g f (inl e) o = le_by refl (ap (at turned) e ∙ swap.second) h
    high_over k g f (inr n) (inl e) = le_by refl (ap (at turned) e ∙ swap.first) (s.over low (omega arith) (omega arith))
    high_over k g f (inr n) (inr m) = le_by refl (swap.other k m n) (s.over k g (omega arith))

    part_high : Parting pivot low (i + 1) old (exchanged new i low)
    unfolding turned
    part_high = record {
      same = after s.same swap.turn;
      above = all_perm (λ x. T (above x)) swap.turn s.above;
      first = kept_first;
      some = s.some;
      within = omega (arith, s.within);
      inside = omega (arith, swap.long);
      below = kept_below;
      over = λ k g f. high_over k g f (same_or_other k low) (same_or_other k i);
    }

  x_above : T (above (at new i))
  x_above = all_at (λ x. T (above x)) new s.above i more

  pivot_above : T (above pivot)
  pivot_above = subst (λ (x : Float). T (above x)) s.first (all_at (λ x. T (above x)) new s.above 0 (omega arith))

  -- by the test that the loop makes
  module _ {says : Float → Float → Bool → Type 0} (splits : Splits says) where
    pub is_gathered : says (at new i) pivot true → Parting pivot (low + 1) (i + 1) old (exchanged new i low)
    is_gathered h = part_low (splits.passed (at new i) pivot x_above pivot_above h)

    pub is_left : says (at new i) pivot false → Parting pivot low (i + 1) old (exchanged new i low)
    is_left h = part_high (splits.failed (at new i) pivot x_above pivot_above h)

-- the pivot came to the front first
pub parting_from : {pivot : Float} {low i : ℕ} {old mid new : List Float} → Reordered old mid → at mid 0 ≡ pivot
    → (n : ℕ) → i ≡ n → Parting (at mid 0) low i mid new → Parting pivot low n old new
parting_from {pivot} {low} {i} {old} {mid} {new} p e n m s =
    subst (λ (x : Float). Parting x low n old new) e
    (subst (λ (k : ℕ). Parting (at mid 0) low k old new) m
    (record {
      same = after p s.same;
      above = s.above;
      first = s.first;
      some = s.some;
      within = s.within;
      inside = s.inside;
      below = s.below;
      over = s.over;
    }))

-- ---- at the end
module _ {pivot : Float} {low i : ℕ} {old new : List Float} (s : Parting pivot low i old new) (all : length new ≤ i) where
  module _ (l : List Float) (is : l ≡ exchanged new 0 (low - 1)) where
    place_in : low - 1 < length new
    place_in = omega (arith, s.some, s.within, s.inside)

    to_place : Exchange new 0 (low - 1) l
    to_place = exchange_is new 0 (low - 1) (omega (arith, place_in)) place_in is

    at_place : at l (low - 1) ≡ pivot
    at_place = to_place.second ∙ s.first

    before : (k : ℕ) → k < low - 1 → (k ≡ 0) ⊎ (k ≡ 0 → ⊥) → T (le (at l k) pivot)
    before k h (inl e) = le_by (ap (at l) e ∙ to_place.first) refl (s.below (low - 1) (omega arith) (omega (arith, s.some)))
    before k h (inr n) = le_by (to_place.other k n (λ q. omega arith)) refl (s.below k (omega arith) (omega arith))

    beyond : (k : ℕ) → low - 1 < k → k < length new → T (le pivot (at l k))
    beyond k h g = le_by refl (to_place.other k (λ q. omega arith) (λ q. omega arith)) (s.over k (omega (arith, s.some)) (omega arith))

    pairs : (i j : ℕ) → i < j → i < low - 1 + 1 → low - 1 ≤ j → j < length new
        → (i ≡ low - 1) ⊎ (i ≡ low - 1 → ⊥) → (j ≡ low - 1) ⊎ (j ≡ low - 1 → ⊥) → T (le (at l i) (at l j))
    pairs i j h a b g (inl e) o = le_by (ap (at l) e ∙ at_place) refl (beyond j (omega arith) g)
    pairs i j h a b g (inr n) (inl f) = le_by refl (ap (at l) f ∙ at_place) (before i (omega arith) (same_or_other i 0))
    pairs i j h a b g (inr n) (inr m) =
        float_le_trans (at l i) pivot (at l j) (before i (omega arith) (same_or_other i 0)) (beyond j (omega arith) g)

    pub parted : Parted (low - 1) (low - 1 + 1) old l
    parted = record {
      same = after s.same to_place.turn;
      ordered = omega arith;
      inside = omega (arith, place_in, to_place.long);
      settled = λ i j h a b g. pairs i j h a b (subst (λ (n : ℕ). j < n) to_place.long g) (same_or_other i (low - 1)) (same_or_other j (low - 1));
    }

  -- where no energy is below the pivot, those before `low` are at most all others
  pub parted_equal : Lowest old → at old 0 ≡ pivot → Parted 0 low old new
  parted_equal lowest e = record {
    same = s.same;
    ordered = omega arith;
    inside = omega (arith, s.within, s.inside);
    settled = λ i j h a b g. float_le_trans (at new i) pivot (at new j) (under i a (same_or_other i 0)) (least j g);
  }
    where
      all_least : All (λ x. T (le pivot x)) new
      all_least = all_perm (λ x. T (le pivot x)) s.same (all_of (λ x. T (le pivot x)) old (λ k h. le_by (sym e) refl (lowest k h)))

      least : (k : ℕ) → k < length new → T (le pivot (at new k))
      least k h = all_at (λ x. T (le pivot x)) new all_least k h

      under : (k : ℕ) → k < low → (k ≡ 0) ⊎ (k ≡ 0 → ⊥) → T (le (at new k) pivot)
      under k h (inl z) = le_by (ap (at new) z ∙ s.first) refl (le_by refl (sym s.first) (least 0 (omega (arith, s.some, s.within, s.inside))))
      under k h (inr n) = s.below k (omega arith) h
