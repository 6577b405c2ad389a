-- The largest of some values, from p on, whatever their order: p itself, or one of them that beats p, and none of them beats it.
-- Where two values that do not beat each other are the same, there is one such. Assumes nothing.
use Prim.Native.Nat.{ℕ, zero, suc, ◌+◌, ◌*◌, ◌<◌}
use native.Mathlib.Nat.{suc-mul, zero-mul, not-suc-le-zero, le_antisymm, le_of_suc-le-suc}
use native.Mathlib.Omega.{arith}
use mathlib.Core.Path.{◌≡◌, refl, ap, sym, subst, ◌∙◌}
use mathlib.Core.Logic.{◌⊎◌, inl, inr}
use mathlib.Core.Bool.{Bool, true, false, cond, true≢false}
use mathlib.Core.List.{List}
use borrow.Author.Tests.{ltb-false}
use lib.Dec.{T}
use lib.ListN.{get_or}
use lib.Ieee.{Float, nan, inf, fin, binary64, up, down, lt, is_nan, fits}
use lib.Ieee.Fits.{down_pos}
use Rattle.base_floats.proofs.Order.{is_true, is_false, right_number, irreflexive, lt_lt}
use Rattle.base_floats.proofs.Magnitude.{magnitude_fits}
use Rattle.base_floats.proofs.Value.{same_float}
use Rattle.samples.specs.Frames.{silence, column}
use Rattle.base_floats.specs.Largest.{magnitude, greater, greatest, largest}

pub record Top (p : Float) (S : Float → Type 0) (z : Float) : Type 0 where
  pub whence : (z ≡ p) ⊎ (T (lt p z) × S z)
  pub unbeaten : (v : Float) → S v → lt z v ≡ false

-- one value more, before the others
module _ (p a : Float) (S S' : Float → Type 0) (new : S' a) (old : (v : Float) → S v → S' v) (all : (v : Float) → S' v → (v ≡ a) ⊎ S v) where
  pub one_more_lem : (z : Float) → Top (greater p a) S z → Top p S' z
  one_more_lem z = go (lt p a) refl
    where
      keep : (q : Float) → (T (lt q a) → ⊥) → Top q S z → (v : Float) → S' v → lt z v ≡ false
      keep q low t v s = elim (all v s) [
        | inl e ↦ is_false (lt z v) (λ h. beat (subst (λ (x : Float). T (lt z x)) e h) t.whence)
        | inr r ↦ t.unbeaten v r
      ]
        where
          beat : T (lt z a) → (z ≡ q) ⊎ (T (lt q z) × S z) → ⊥
          beat h (inl e) = low (subst (λ (x : Float). T (lt x a)) e h)
          beat h (inr r) = low (lt_lt q z a r.0 h)

      go : (b : Bool) → lt p a ≡ b → Top (cond b a p) S z → Top p S' z
      go true e t = record { whence = up_from t.whence; unbeaten = keep a (irreflexive a) t }
        where
          up_from : (z ≡ a) ⊎ (T (lt a z) × S z) → (z ≡ p) ⊎ (T (lt p z) × S' z)
          up_from (inl r) = inr (subst (λ (x : Float). T (lt p x)) (sym r) (subst T (sym e) tt), subst S' (sym r) new)
          up_from (inr r) = inr (lt_lt p a z (subst T (sym e) tt) r.0, old z r.1)
      go false e t = record { whence = on_from t.whence; unbeaten = keep p (λ h. subst T e h) t }
        where
          on_from : (z ≡ p) ⊎ (T (lt p z) × S z) → (z ≡ p) ⊎ (T (lt p z) × S' z)
          on_from (inl r) = inl r
          on_from (inr r) = inr (r.0, old z r.1)

-- there is one
abbrev pub Same : (Float → Type 0) → Type 0
Same S = (v w : Float) → S v → S w → is_nan v ≡ false → is_nan w ≡ false → lt v w ≡ false → lt w v ≡ false → v ≡ w

pub one_top : (p : Float) (S : Float → Type 0) → Same S → (z w : Float) → Top p S z → Top p S w → z ≡ w
one_top p S same z w t u = go t.whence u.whence
  where
    beats : (x y : Float) → x ≡ p → T (lt p y) → lt x y ≡ false → ⊥
    beats x y e h f = true≢false (sym (is_true (lt x y) (subst (λ (q : Float). T (lt q y)) (sym e) h)) ∙ f)

    go : (z ≡ p) ⊎ (T (lt p z) × S z) → (w ≡ p) ⊎ (T (lt p w) × S w) → z ≡ w
    go (inl e) (inl d) = e ∙ sym d
    go (inl e) (inr d) = absurd (beats z w e d.0 (t.unbeaten w d.1))
    go (inr e) (inl d) = absurd (beats w z d e.0 (u.unbeaten z e.1))
    go (inr e) (inr d) =
        same z w e.1 d.1 (right_number p z e.0) (right_number p w d.0) (t.unbeaten w d.1) (u.unbeaten z e.1)

-- ---- the magnitudes of a column

pub record Stands (l : List Float) (first step n : ℕ) (v : Float) : Type 0 where
  pub turn : ℕ
  pub soon : turn < n
  pub same : v ≡ magnitude (get_or l (first + turn * step) silence)

pub top_of : (p : Float) (l : List Float) (first step n : ℕ) → Top p (Stands l first step n) (largest p (column l first step n))
unfolding greatest column
top_of p l first step zero = record { whence = inl refl; unbeaten = λ v s. absurd (not-suc-le-zero s.soon) }
top_of p l first step (suc n) =
    one_more_lem p (magnitude (get_or l first silence)) (Stands l (first + step) step n) (Stands l first step (suc n)) at_first later split
    (largest (greater p (magnitude (get_or l first silence))) (column l (first + step) step n))
    (top_of (greater p (magnitude (get_or l first silence))) l (first + step) step n)
  where
    place : (q : ℕ) → first + step + q * step ≡ first + suc q * step
    place q = omega (arith, suc-mul q step)

    start : first + 0 * step ≡ first
    start = omega (arith, zero-mul step)

    at_first : Stands l first step (suc n) (magnitude (get_or l first silence))
    at_first = record { turn = 0; soon = omega arith; same = ap (λ (i : ℕ). magnitude (get_or l i silence)) (sym start) }

    later : (v : Float) → Stands l (first + step) step n v → Stands l first step (suc n) v
    later v s = record { turn = suc s.turn; soon = let h = s.soon in omega arith; same = s.same ∙ ap (λ (i : ℕ). magnitude (get_or l i silence)) (place s.turn) }

    by_turn : (v : Float) (q : ℕ) → q < suc n → v ≡ magnitude (get_or l (first + q * step) silence) → (v ≡ magnitude (get_or l first silence)) ⊎ Stands l (first + step) step n v
    by_turn v zero h e = inl (e ∙ ap (λ (i : ℕ). magnitude (get_or l i silence)) start)
    by_turn v (suc q) h e = inr (record { turn = q; soon = le_of_suc-le-suc h; same = e ∙ ap (λ (i : ℕ). magnitude (get_or l i silence)) (sym (place q)) })

    split : (v : Float) → Stands l first step (suc n) v → (v ≡ magnitude (get_or l first silence)) ⊎ Stands l (first + step) step n v
    split v s = by_turn v s.turn s.soon s.same

-- ---- magnitudes of values that a format holds: two that do not beat each other are the same
pub one_magnitude : (x y : Float) → T (fits binary64 x) → T (fits binary64 y) → is_nan (magnitude x) ≡ false → is_nan (magnitude y) ≡ false
    → lt (magnitude x) (magnitude y) ≡ false → lt (magnitude y) (magnitude x) ≡ false → magnitude x ≡ magnitude y
unfolding lt is_nan
one_magnitude nan y f g a b h k = absurd (true≢false a)
one_magnitude (inf s) nan f g a b h k = absurd (true≢false b)
one_magnitude (inf s) (inf t) f g a b h k = refl
one_magnitude (inf s) (fin t n d) f g a b h k = absurd (true≢false k)
one_magnitude (fin s m e) nan f g a b h k = absurd (true≢false b)
one_magnitude (fin s m e) (inf t) f g a b h k = absurd (true≢false h)
one_magnitude (fin s m e) (fin t n d) f g a b h k =
    same_float binary64 (fin false m e) (fin false n d) false (n * up d) (down d) (down_pos d) (magnitude_fits binary64 (fin s m e) f) (magnitude_fits binary64 (fin t n d) g)
    (refl, le_antisymm (ltb-false (n * up d * down e) (m * up e * down d) k) (ltb-false (m * up e * down d) (n * up d * down e) h)) (refl, refl)

pub same_magnitudes : (l : List Float) (first step n : ℕ) → ((i : ℕ) → T (fits binary64 (get_or l i silence))) → Same (Stands l first step n)
same_magnitudes l first step n f v w s t a b h k =
    let x = get_or l (first + s.turn * step) silence in
    let y = get_or l (first + t.turn * step) silence in
    s.same
    ∙ one_magnitude x y (f (first + s.turn * step)) (f (first + t.turn * step))
    (subst (λ (z : Float). is_nan z ≡ false) s.same a) (subst (λ (z : Float). is_nan z ≡ false) t.same b)
    (ap (λ (z : Float). lt z (magnitude y)) (sym s.same) ∙ ap (λ (z : Float). lt v z) (sym t.same) ∙ h)
    (ap (λ (z : Float). lt z (magnitude x)) (sym t.same) ∙ ap (λ (z : Float). lt w z) (sym s.same) ∙ k)
    ∙ sym t.same
