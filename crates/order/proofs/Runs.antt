-- Energies that stand in order already, rising or falling: each neighbour in order makes every pair in order, and the first or the last above zero makes all so.
-- What falls rises when it is turned round. Assumes nothing.
use mathlib.Core.Path.{◌≡◌, sym, ap, ◌∙◌, subst}
use mathlib.Core.Bool.{Bool, true}
use mathlib.Core.Logic.{◌⊎◌, inl, inr}
use mathlib.Core.List.{List, reverse}
use Prim.Native.Nat.{ℕ, zero, suc, ◌+◌, ◌-◌, ◌≤◌, ◌<◌}
use native.Mathlib.Nat.{eq-or-lt_of_le, le_of_suc-le-suc, not-suc-le-zero}
use native.Mathlib.Decide.{dec_lt}
use native.Mathlib.Omega.{arith}
use lib.Dec.{T}
use lib.ListN.{length, take, drop, length-drop}
use lib.Seq.{drop-drop, get_or-drop, get_or-take, length-take-le}
use lib.Ieee.{Float, nan, binary64, of_bits, le, lt}
use lib.Ieee.Positive.{above}
use Rattle.base_floats.proofs.Order.{float_le_trans}
use Rattle.base_floats.specs.Entry.{at}
use Rattle.std.proofs.lemmas.List.{length-reverse, get_or-reverse}
use Rattle.std.proofs.lemmas.List.Sorted.{IsPermutation-reverse}
use Rattle.order_rules.specs.Arrangement.{Above, Rising, Ordered}
use Rattle.order.specs.Inner.{Steps, Falling}
use Rattle.order_rules.proofs.Perms.{reordered_from, all_of}
use Rattle.order_rules.proofs.Energies.{above_up, zero_below}
use Rattle.order_rules.proofs.Places.{le_by, same_or_other, rising_of}

-- ---- in a relation that passes on, neighbours give every pair
module _ (R : Float → Float → Type 0) (trans : (x y z : Float) → R x y → R y z → R x z) (l : List Float) where
  Pairs : ℕ → Type 0
  Pairs n = (k : ℕ) → suc k < n → R (at l k) (at l (suc k))

  far : (n : ℕ) → Pairs n → (i j : ℕ) → i < j → j < n → R (at l i) (at l j)
  unfolding Pairs
  far n s i zero h g = absurd (not-suc-le-zero h)
  far n s i (suc j) h g = go (eq-or-lt_of_le (le_of_suc-le-suc h)) (far n s i j)
    where
      go : (i ≡ j) ⊎ (i < j) → (i < j → j < n → R (at l i) (at l j)) → R (at l i) (at l (suc j))
      go (inl e) rec = subst (λ (k : ℕ). R (at l k) (at l (suc j))) (sym e) (s j g)
      go (inr q) rec = trans (at l i) (at l j) (at l (suc j)) (rec q (omega arith)) (s j g)

abbrev Up : Float → Float → Type 0
Up x y = T (le x y)

abbrev Down : Float → Float → Type 0
Down x y = T (le y x)

down_trans : (x y z : Float) → Down x y → Down y z → Down x z
down_trans x y z h g = float_le_trans z y x g h

-- ---- one step more, and one stretch after another
module _ {says : Float → Float → Bool → Type 0} (l : List Float) (i : ℕ) (s : Steps says i l) where
  pub one_more : says (at l i) (at l (suc i)) true → Steps says (i + 1) l
  one_more h = record { each = λ k g. go k g (same_or_other k i) }
    where
      go : (k : ℕ) → k < i + 1 → (k ≡ i) ⊎ (k ≡ i → ⊥) → says (at l k) (at l (suc k)) true
      go k g (inl e) = subst (λ (j : ℕ). says (at l j) (at l (suc j)) true) (sym e) h
      go k g (inr n) = s.each k (omega arith)

  -- of the places from i on
  pub stretched : (n : ℕ) → Steps says n (drop i l) → Steps says (i + n) l
  stretched n t = record { each = λ k g. go k g (dec_lt k i) }
    where
      go : (k : ℕ) → k < i + n → Dec (k < i) → says (at l k) (at l (suc k)) true
      go k g (yes h) = s.each k h
      go k g (no h) =
          let at_first : i + (k - i) ≡ k = omega arith in
          let at_next : i + suc (k - i) ≡ suc k = omega arith in
          subst (λ (x : Float). says x (at l (suc k)) true) (get_or-drop i l (k - i) nan ∙ ap (at l) at_first)
          (subst (λ (y : Float). says (at (drop i l) (k - i)) y true) (get_or-drop i l (suc (k - i)) nan ∙ ap (at l) at_next) (t.each (k - i) (omega arith)))

-- the pair that is looked at
pub pair_on : {says : Float → Float → Bool → Type 0} (l : List Float) (i : ℕ) → Steps says i l
    → (x y : Float) (b : Bool) → says x y b → x ≡ at l (i + 0) → y ≡ at l (i + 1) → b ≡ true → (n : ℕ) → n ≡ i + 1 → Steps says n l
pair_on {says} l i s x y b h e f t n m =
    let here : i + 0 ≡ i = omega arith in
    let next : i + 1 ≡ suc i = omega arith in
    subst (λ (j : ℕ). Steps says j l) (sym m) (one_more l i s
    (subst (λ (z : Float). says z (at l (suc i)) true) (e ∙ ap (at l) here)
    (subst (λ (z : Float). says x z true) (f ∙ ap (at l) next) (subst (says x y) t h))))

-- ---- a look that has come so far: what is left, and that the test passed up to it
pub record Looked (says : Float → Float → Bool → Type 0) (l rest : List Float) : Type 0 where
  pub within : length rest ≤ length l
  pub left : rest ≡ drop (length l - length rest) l
  pub passed : Steps says (length l - length rest) l

pub look_start : (says : Float → Float → Bool → Type 0) (l : List Float) → Looked says l l
look_start says l =
    let none : length l - length l ≡ 0 = omega arith in
    record { within = omega arith; left = rw none; passed = record { each = λ k h. absurd (omega arith) } }

module _ {says : Float → Float → Bool → Type 0} {l rest : List Float} (s : Looked says l rest) where
  i : ℕ
  i = length l - length rest

  front : (n : ℕ) → n < length rest → Steps says (length (take (n + 1) rest) - 1) (take (n + 1) rest) → Steps says n rest
  front n h t = record {
    each = λ k g.
        subst (λ (x : Float). says x (at rest (suc k)) true) (get_or-take (n + 1) rest k nan (omega arith))
        (subst (λ (y : Float). says (at (take (n + 1) rest) k) y true) (get_or-take (n + 1) rest (suc k) nan (omega arith))
        (t.each k (omega (arith, length-take-le (n + 1) rest (omega arith)))));
  }

  further : (n : ℕ) → Steps says n rest → Steps says (i + n) l
  unfolding i
  further n t = stretched l (length l - length rest) s.passed n (subst (Steps says n) s.left t)

  pub look_on : (n : ℕ) → n < length rest → Steps says (length (take (n + 1) rest) - 1) (take (n + 1) rest)
      → (now : List Float) → now ≡ drop n rest → Looked says l now
  unfolding i
  look_on n h t now e =
      let long : length now ≡ length rest - n = ap length e ∙ length-drop n rest in
      let so_far : length l - length rest + n ≡ length l - length now = omega (arith, s.within) in
      record {
        within = omega (arith, s.within);
        left = e ∙ ap (drop n) s.left ∙ drop-drop n (length l - length rest) l ∙ ap (λ (k : ℕ). drop k l) so_far;
        passed = subst (λ (k : ℕ). Steps says k l) so_far (further n (front n h t));
      }

  pub look_end : Steps says (length rest - 1) rest → Steps says (length l - 1) l
  unfolding i
  look_end t = record { each = λ k h. (further (length rest - 1) t).each k (omega (arith, s.within)) }

module _ (l : List Float) where
  pub climbed : ((k : ℕ) → k < length l - 1 → T (le (at l k) (at l (suc k)))) → lt (of_bits binary64 0) (at l 0) ≡ true → Above l × Rising l
  unfolding Pairs
  climbed s e = (all_of (λ x. T (above x)) l go, rising_of l (far Up float_le_trans l (length l) steps))
    where
      steps : (k : ℕ) → suc k < length l → T (le (at l k) (at l (suc k)))
      steps k h = s k (omega arith)

      first : T (above (at l 0))
      first = subst T (zero_below (at l 0)) (subst T (sym e) tt)

      go : (k : ℕ) → k < length l → T (above (at l k))
      go zero h = first
      go (suc k) h = above_up (at l 0) (at l (suc k)) first (far Up float_le_trans l (length l) steps 0 (suc k) (omega arith) h)

  pub sunk : ((k : ℕ) → k < length l - 1 → T (le (at l (suc k)) (at l k))) → lt (of_bits binary64 0) (at l (length l - 1)) ≡ true → Above l × Falling l
  unfolding Pairs
  sunk s e = (all_of (λ x. T (above x)) l (λ k h. go k h (same_or_other k (length l - 1))), far Down down_trans l (length l) steps)
    where
      steps : (k : ℕ) → suc k < length l → T (le (at l (suc k)) (at l k))
      steps k h = s k (omega arith)

      lowest : T (above (at l (length l - 1)))
      lowest = subst T (zero_below (at l (length l - 1))) (subst T (sym e) tt)

      go : (k : ℕ) → k < length l → (k ≡ length l - 1) ⊎ (k ≡ length l - 1 → ⊥) → T (above (at l k))
      go k h (inl q) = subst (λ (j : ℕ). T (above (at l j))) (sym q) lowest
      go k h (inr n) = above_up (at l (length l - 1)) (at l k) lowest (far Down down_trans l (length l) steps k (length l - 1) (omega arith) (omega arith))

pub no_energies : (l : List Float) → length l ≡ 0 → Above l × Rising l × Falling l
no_energies l z = (
  all_of (λ x. T (above x)) l (λ k h. absurd (omega arith)),
  rising_of l (λ i j h g. absurd (omega arith)),
  λ i j h g. absurd (omega arith),
)

-- ---- turned round
pub falling_turned : (l : List Float) → Falling l → Ordered l (reverse l)
falling_turned l f = record {
  same = reordered_from l (reverse l) (IsPermutation-reverse l);
  rising = rising_of (reverse l) (λ i j h g.
      let j_in : j < length l = omega (arith, length-reverse l) in
      le_by (get_or-reverse l i nan (omega arith)) (get_or-reverse l j nan j_in) (f (length l - 1 - j) (length l - 1 - i) (omega arith) (omega arith)));
}
