-- The greater of two floats, and the greatest of a list: the first where neither is greater, so NaN never wins; and runs that begin anew may be compared in order.
-- What beats the greater of two also beats the other, and NaN beats nothing, so no run loses a value and none lets NaN win. Assumes nothing.
use mathlib.Core.Path.{◌≡◌, refl, sym, ap, ◌∙◌, subst}
use mathlib.Core.Logic.{inl, inr}
use mathlib.Core.List.{List, [], ◌∷◌}
use mathlib.Core.Bool.{Bool, true, false, cond}
use lib.Dec.{T}
use lib.Ieee.{Float, lt}
use Rattle.base_floats.specs.Largest.{greater, greatest}
use Rattle.base_floats.specs.Inner.{Raised}
use Rattle.base_floats.proofs.Order.{is_true, right_number, irreflexive, lt_lt, beaten}

-- ---- q is at or above p: what beats q beats p
abbrev pub Over : Float → Float → Type 0
Over p q = (a : Float) → T (lt q a) → T (lt p a)

pub over_self : (p : Float) → Over p p
over_self p a h = h

not_below_lem : (p q : Float) → Over p q → lt q p ≡ false
not_below_lem p q o = go (lt q p) refl
  where
    go : (b : Bool) → lt q p ≡ b → b ≡ false
    go true e = absurd (irreflexive p (o p (subst T (sym e) tt)))
    go false e = refl

-- p itself raises nothing that is over p
pub greater_old : (p q : Float) → Over p q → greater q p ≡ q
greater_old p q o = ap (λ (b : Bool). cond b p q) (not_below_lem p q o)

pub over_greater : (p q v : Float) → Over p q → Over p (greater q v)
over_greater p q v o = go (lt q v) refl
  where
    go : (b : Bool) → lt q v ≡ b → Over p (cond b v q)
    go true e = λ a h. o a (lt_lt q v a (subst T (sym e) tt) h)
    go false e = o

-- what a run ends with is what it began with, or beats it
raised_greater : (p v z : Float) → Raised (greater p v) z → Raised p z
raised_greater p v z = go (lt p v) refl
  where
    go : (b : Bool) → lt p v ≡ b → Raised (cond b v p) z → Raised p z
    go true e (inl r) = inr (subst (λ (y : Float). T (lt p y)) (sym r) (subst T (sym e) tt))
    go true e (inr h) = inr (lt_lt p v z (subst T (sym e) tt) h)
    go false e r = r

beats_through : (q v z : Float) → T (lt q v) → Raised v z → greater q z ≡ z
beats_through q v z h (inl e) = ap (λ (y : Float). cond (lt q y) y q) e ∙ ap (λ (b : Bool). cond b v q) (is_true (lt q v) h) ∙ sym e
beats_through q v z h (inr k) = ap (λ (b : Bool). cond b z q) (is_true (lt q z) (lt_lt q v z h k))

-- ---- the greatest of a list, from p on
pub raised_greatest : (p : Float) (vs : List Float) → Raised p (greatest p vs)
unfolding greatest
raised_greatest p [] = inl refl
raised_greatest p (v ∷ vs) = raised_greater p v (greatest (greater p v) vs) (raised_greatest (greater p v) vs)

pub over_greatest : (p q : Float) (vs : List Float) → Over p q → Over p (greatest q vs)
unfolding greatest
over_greatest p q [] o = o
over_greatest p q (v ∷ vs) o = over_greatest p (greater q v) vs (over_greater p q v o)

-- a run from q is q and the run from p, whichever is greater
pub apart : (p q : Float) (vs : List Float) → Over p q → greatest q vs ≡ greater q (greatest p vs)
unfolding greatest
apart p q [] o = sym (greater_old p q o)
apart p q (v ∷ vs) o = go (lt q v) (lt p v) refl refl (λ r o'. apart r q vs o')
  where
    go : (b d : Bool) → lt q v ≡ b → lt p v ≡ d → ((r : Float) → Over r q → greatest q vs ≡ greater q (greatest r vs))
        → greatest (cond b v q) vs ≡ greater q (greatest (cond d v p) vs)
    go true true e f rest = sym (beats_through q v (greatest v vs) (subst T (sym e) tt) (raised_greatest v vs))
    go true false e f rest = absurd (subst T f (o v (subst T (sym e) tt)))
    go false true e f rest = rest v (λ a h. beaten q v a (right_number p v (subst T (sym f) tt)) e h)
    go false false e f rest = rest p o
