-- All energies above zero, as a test and as a fact; and the test finds it by places, or one after the other. Assumes nothing.
use mathlib.Core.Path.{◌≡◌, refl, sym, ◌∙◌, subst}
use mathlib.Core.Bool.{Bool, true, false, ◌&&◌, true≢false, and-true, and-false, and_assoc}
use mathlib.Core.List.{List, [], ◌∷◌}
use Prim.Native.Nat.{ℕ, zero, suc, ◌+◌, ◌≤◌, ◌<◌}
use native.Mathlib.Nat.{le_of_suc-le-suc, not-suc-le-zero}
use native.Mathlib.Omega.{arith}
use Rattle.std.specs.Bool.{MatchBool}
use Rattle.std.specs.List.{AllWithin, HoldsAt}
use lib.Dec.{T}
use lib.ListN.{length, drop, drop_of_length-le}
use lib.Seq.{drop-cons}
use lib.Ieee.{Float, nan, binary64, of_bits, lt}
use lib.Ieee.Positive.{above}
use Rattle.base_floats.proofs.Order.{is_true}
use Rattle.order_rules.specs.Order.{all_above}
use Rattle.base_floats.specs.Entry.{at}
use Rattle.order_rules.specs.Arrangement.{Above}
use Rattle.order_rules.proofs.Perms.{all_of}
use Rattle.order_rules.proofs.Energies.{zero_below}

pub all_above_lem : (l : List Float) → Above l → all_above l ≡ true
unfolding all_above
all_above_lem [] a = refl
all_above_lem (x ∷ l) a = rw (is_true (above x) a.0) (all_above_lem l a.1)

and_both : (a b : Bool) → a && b ≡ true → T a × (b ≡ true)
and_both true b e = (tt, e)
and_both false b e = absurd (true≢false (sym e))

pub above_all : (l : List Float) → all_above l ≡ true → Above l
unfolding all_above
above_all [] e = tt
above_all (x ∷ l) e = let h = and_both (above x) (all_above l) e in (h.0, above_all l h.1)

one_not : (l : List Float) (k : ℕ) → k < length l → above (at l k) ≡ false → false ≡ all_above l
unfolding all_above
one_not [] k h e = absurd (not-suc-le-zero h)
one_not (x ∷ l) zero h e = rw e
one_not (x ∷ l) (suc k) h e = rw (sym (one_not l k (le_of_suc-le-suc h) e)) (sym (and-false (above x)))

-- what a look at each place finds
pub above_by_places : (l : List Float) (b : Bool)
    → MatchBool b (AllWithin (λ x. lt (of_bits binary64 0) x ≡ true) l 0 (length l)) ((k : ℕ) × (k < length l) × HoldsAt (λ x. lt (of_bits binary64 0) x ≡ false) l k)
    → b ≡ all_above l
above_by_places l true h = sym (all_above_lem l (all_of (λ x. T (above x)) l (λ k g. subst T (sym (h k nan (omega arith) g) ∙ zero_below (at l k)) tt)))
above_by_places l false h = one_not l h.0 h.1 (sym (zero_below (at l h.0)) ∙ h.2 nan)

pub none_left : (l : List Float) (i : ℕ) → length l ≤ i → all_above (drop i l) ≡ true
unfolding all_above
none_left l i h = rw (drop_of_length-le l {i = i} h)

-- a look that goes on to the end: what was seen, and what is left, tell of the whole
module _ (fine : Bool) (l : List Float) (i : ℕ) where
  pub fine_on : i < length l → (fine && lt (of_bits binary64 0) (at l i)) && all_above (drop (i + 1) l) ≡ fine && all_above (drop i l)
  unfolding all_above
  fine_on h =
      let next : i + 1 ≡ suc i = omega arith in
      rw (next, drop-cons l i nan h, zero_below (at l i)) (and_assoc fine (above (at l i)) (all_above (drop (suc i) l)))

  pub fine_end : length l ≤ i → fine && all_above (drop i l) ≡ fine
  fine_end h = rw (none_left l i h) (and-true fine)
