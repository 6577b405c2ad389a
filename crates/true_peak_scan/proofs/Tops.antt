-- The largest of some values, from p on, whatever their order: p itself, or one of them that beats p, and none of them beats it.
-- Where two values that do not beat each other are the same, there is one such. Assumes nothing.
use Rattle.std.proofs.Common.{◌≡◌, Bool, true, false, cond, true≢false, refl, ap, sym, subst, ◌∙◌}
use mathlib.Core.Logic.{◌⊎◌, inl, inr}
use lib.Dec.{T}
use lib.Ieee.{Float, lt, is_nan}
use Rattle.base_floats.proofs.Order.{is_true, is_false, right_number, irreflexive, lt_lt, beaten}
use Rattle.base_floats.specs.Largest.{greater}

pub record Top (p : Float) (S : Float → Type 0) (z : Float) : Type 0 where
  pub whence : (z ≡ p) ⊎ (T (lt p z) × S z)
  pub unbeaten : (v : Float) → S v → lt z v ≡ false

-- of none
pub top_none : (p : Float) (S : Float → Type 0) → ((v : Float) → S v → ⊥) → Top p S p
top_none p S none = record { whence = inl refl; unbeaten = λ v s. absurd (none v s) }

-- of one
pub top_one : (p a : Float) (S : Float → Type 0) → S a → ((v : Float) → S v → v ≡ a) → Top p S (greater p a)
top_one p a S here only = go (lt p a) refl
  where
    go : (b : Bool) → lt p a ≡ b → Top p S (cond b a p)
    go true e = record {
      whence = inr (subst T (sym e) tt, here);
      unbeaten = λ v s. is_false (lt a v) (λ h. irreflexive a (subst (λ (x : Float). T (lt a x)) (only v s) h));
    }
    go false e = record { whence = inl refl; unbeaten = λ v s. ap (lt p) (only v s) ∙ e }

-- of the same values, said in another way
pub top_as : (p : Float) (S S' : Float → Type 0) → ((v : Float) → S v → S' v) → ((v : Float) → S' v → S v) → (z : Float) → Top p S z → Top p S' z
top_as p S S' there back z t = record { whence = elim t.whence [ inl e ↦ inl e | inr r ↦ inr (r.0, there z r.1) ]; unbeaten = λ v s. t.unbeaten v (back v s) }

-- of some, and from that of others
module _ (p : Float) (S S' all : Float → Type 0) (old : (v : Float) → S v → all v) (new : (v : Float) → S' v → all v) (split : (v : Float) → all v → S v ⊎ S' v) where
  pub top_then : (t z : Float) → Top p S t → Top t S' z → Top p all z
  top_then t z first later = record {
    whence = from later.whence first.whence;
    unbeaten = λ v s. elim (split v s) [ inl r ↦ is_false (lt z v) (λ h. below v r later.whence h) | inr r ↦ later.unbeaten v r ];
  }
    where
      from : (z ≡ t) ⊎ (T (lt t z) × S' z) → (t ≡ p) ⊎ (T (lt p t) × S t) → (z ≡ p) ⊎ (T (lt p z) × all z)
      from (inl e) (inl d) = inl (e ∙ d)
      from (inl e) (inr d) = inr (subst (λ (x : Float). T (lt p x)) (sym e) d.0, subst all (sym e) (old t d.1))
      from (inr e) (inl d) = inr (subst (λ (x : Float). T (lt x z)) d e.0, new z e.1)
      from (inr e) (inr d) = inr (lt_lt p t z d.0 e.0, new z e.1)

      clash : (v : Float) → S v → T (lt t v) → ⊥
      clash v s h = true≢false (sym (is_true (lt t v) h) ∙ first.unbeaten v s)

      below : (v : Float) → S v → (z ≡ t) ⊎ (T (lt t z) × S' z) → T (lt z v) → ⊥
      below v s (inl e) h = clash v s (subst (λ (x : Float). T (lt x v)) e h)
      below v s (inr e) h = clash v s (lt_lt t z v e.0 h)

  -- the greater of two, each from p on
  pub top_join : (t u : Float) → Top p S t → Top p S' u → Top p all (greater t u)
  top_join t u mine its = go (lt t u) refl
    where
      not_both : (v : Float) → lt t v ≡ false → T (lt t v) → ⊥
      not_both v e h = true≢false (sym (is_true (lt t v) h) ∙ e)

      go : (b : Bool) → lt t u ≡ b → Top p all (cond b u t)
      go true e = record {
        whence = from mine.whence its.whence;
        unbeaten = λ v s. elim (split v s) [
          | inl r ↦ is_false (lt u v) (λ h. not_both v (mine.unbeaten v r) (lt_lt t u v (subst T (sym e) tt) h))
          | inr r ↦ its.unbeaten v r
        ];
      }
        where
          above : T (lt t u)
          above = subst T (sym e) tt

          from : (t ≡ p) ⊎ (T (lt p t) × S t) → (u ≡ p) ⊎ (T (lt p u) × S' u) → (u ≡ p) ⊎ (T (lt p u) × all u)
          from m (inl d) = inl d
          from m (inr d) = inr (d.0, new u d.1)
      go false e = record {
        whence = from mine.whence;
        unbeaten = λ v s. elim (split v s) [
          | inl r ↦ mine.unbeaten v r
          | inr r ↦ is_false (lt t v) (λ h. over v r its.whence h)
        ];
      }
        where
          from : (t ≡ p) ⊎ (T (lt p t) × S t) → (t ≡ p) ⊎ (T (lt p t) × all t)
          from (inl d) = inl d
          from (inr d) = inr (d.0, old t d.1)

          beats : (v : Float) → S' v → T (lt u v) → ⊥
          beats v s h = true≢false (sym (is_true (lt u v) h) ∙ its.unbeaten v s)

          from_p : (v : Float) → (t ≡ p) ⊎ (T (lt p t) × S t) → T (lt t v) → T (lt p v)
          from_p v (inl d) h = subst (λ (x : Float). T (lt x v)) d h
          from_p v (inr d) h = lt_lt p t v d.0 h

          over : (v : Float) → S' v → (u ≡ p) ⊎ (T (lt p u) × S' u) → T (lt t v) → ⊥
          over v s (inl d) h = beats v s (subst (λ (x : Float). T (lt x v)) (sym d) (from_p v mine.whence h))
          over v s (inr d) h = beats v s (beaten t u v (right_number p u d.0) e h)

-- there is one
abbrev pub Same : (Float → Type 0) → Type 0
Same S = (v w : Float) → S v → S w → is_nan v ≡ false → is_nan w ≡ false → lt v w ≡ false → lt w v ≡ false → v ≡ w

pub one_top : (p : Float) (S : Float → Type 0) → Same S → (z w : Float) → Top p S z → Top p S w → z ≡ w
one_top p S same z w t u = go t.whence u.whence
  where
    beats : (x y : Float) → x ≡ p → T (lt p y) → lt x y ≡ false → ⊥
    beats x y e h f = true≢false (sym (is_true (lt x y) (subst (λ (q : Float). T (lt q y)) (sym e) h)) ∙ f)

    go : (z ≡ p) ⊎ (T (lt p z) × S z) → (w ≡ p) ⊎ (T (lt p w) × S w) → z ≡ w
    go (inl e) (inl d) = e ∙ sym d
    go (inl e) (inr d) = absurd (beats z w e d.0 (t.unbeaten w d.1))
    go (inr e) (inl d) = absurd (beats w z d e.0 (u.unbeaten z e.1))
    go (inr e) (inr d) = same z w e.1 d.1 (right_number p z e.0) (right_number p w d.0) (t.unbeaten w d.1) (u.unbeaten z e.1)
