-- Gating blocks and putting them in order: it is the same either way round, and in rising order a gate takes the leading ones only.
-- Putting one more in its place changes no other, and where one is not below the gate no later one is. Assumes nothing.
use mathlib.Core.Path.{◌≡◌, refl, sym, ap, ◌∙◌, subst}
use mathlib.Core.Bool.{Bool, true, false, not, cond}
use mathlib.Core.List.{List, [], ◌∷◌}
use borrow.Author.Tests.{not-true}
use lib.Dec.{T}
use lib.Ieee.{Float, lt, le}
use lib.Ieee.Positive.{above}
use Rattle.base_floats.proofs.Order.{float_le_trans, lt→le, lt_not_le}
use Rattle.bins.specs.Energy.{dropped}
use Rattle.history_set.specs.Set.{none_below}
use Rattle.history_set.proofs.Entries.{both}
use Rattle.order_rules.specs.Order.{put, in_order}
use Rattle.order_rules.specs.Arrangement.{All, Above, Rising}
use Rattle.order_rules.proofs.Energies.{not_below_lem, above_up}
use Rattle.order_rules.proofs.InOrder.{at_most_all, put_first, in_order_rises}
use Rattle.range_queues.specs.Rising.{from_gate}
use Rattle.acceptance_meaning.specs.Levels.{absolute_gate}
use Rattle.acceptance_meaning.specs.Tech3342.{gated}

-- ---- a gate that takes none
pub gated_all : (gate : Float) (l : List Float) → All (λ x. lt x gate ≡ false) l → gated gate l ≡ l
unfolding gated
gated_all gate [] a = refl
gated_all gate (x ∷ l) a =
    ap (λ (b : Bool). cond b (gated gate l) (x ∷ gated gate l)) a.0 ∙ ap {B = List Float} (λ (r : List Float). x ∷ r) (gated_all gate l a.1)

none_dropped : (l : List Float) → none_below l ≡ true → All (λ x. lt x absolute_gate ≡ false) l
unfolding none_below
none_dropped [] h = tt
none_dropped (x ∷ l) h = let p = both (not (dropped x)) (none_below l) h in (not-true (dropped x) p.0, none_dropped l p.1)

-- no held energy is below the absolute gate
pub absolute_all : (l : List Float) → none_below l ≡ true → gated absolute_gate l ≡ l
absolute_all l h = gated_all absolute_gate l (none_dropped l h)

-- ---- in rising order
-- where one is not below the gate, what is at least it is not either
not_below_on : (gate x y : Float) → T (above x) → T (le x y) → lt x gate ≡ false → lt y gate ≡ false
not_below_on gate x y a h e = go (lt y gate) refl
  where
    go : (b : Bool) → lt y gate ≡ b → b ≡ false
    go false f = refl
    go true f =
        let t : T (lt y gate) = subst T (sym f) tt in
        let g : T (above gate) = above_up y gate (above_up x y a h) (lt→le y gate t) in
        absurd (lt_not_le y gate t (float_le_trans gate x y (not_below_lem x gate a g e) h))

all_on : (gate x : Float) → T (above x) → lt x gate ≡ false → (l : List Float) → All (λ y. T (le x y)) l → All (λ y. lt y gate ≡ false) l
all_on gate x a e [] h = tt
all_on gate x a e (y ∷ l) h = (not_below_on gate x y a h.0 e, all_on gate x a e l h.1)

pub leading : (gate : Float) (l : List Float) → Above l → Rising l → from_gate gate l ≡ gated gate l
unfolding from_gate gated
leading gate [] a r = refl
leading gate (x ∷ l) a r = go (lt x gate) refl (leading gate l a.1 r.1)
  where
    go : (b : Bool) → lt x gate ≡ b → from_gate gate l ≡ gated gate l → cond (not b) (x ∷ l) (from_gate gate l) ≡ cond b (gated gate l) (x ∷ gated gate l)
    go true e h = h
    go false e h = ap {B = List Float} (λ (k : List Float). x ∷ k) (sym (gated_all gate l (all_on gate x a.0 e l r.0)))

-- ---- one more in its place
all_gated_lem : (gate x : Float) (l : List Float) → All (λ z. T (le x z)) l → All (λ z. T (le x z)) (gated gate l)
unfolding gated
all_gated_lem gate x [] h = tt
all_gated_lem gate x (y ∷ l) h = go (lt y gate) (all_gated_lem gate x l h.1)
  where
    go : (b : Bool) → All (λ z. T (le x z)) (gated gate l) → All (λ z. T (le x z)) (cond b (gated gate l) (y ∷ gated gate l))
    go true k = k
    go false k = (h.0, k)

gated_put : (gate x : Float) (l : List Float) → Rising l → gated gate (put x l) ≡ cond (lt x gate) (gated gate l) (put x (gated gate l))
unfolding gated put
gated_put gate x [] r = go (lt x gate)
  where
    go : (b : Bool) → cond b [] (x ∷ []) ≡ cond b [] (x ∷ [])
    go b = refl
gated_put gate x (y ∷ l) r = go (le x y) (lt x gate) (lt y gate) refl refl refl (gated_put gate x l r.1)
  where
    go : (b c d : Bool) → le x y ≡ b → lt x gate ≡ c → lt y gate ≡ d → gated gate (put x l) ≡ cond c (gated gate l) (put x (gated gate l))
        → gated gate (cond b (x ∷ y ∷ l) (y ∷ put x l))
        ≡ cond c (cond d (gated gate l) (y ∷ gated gate l)) (put x (cond d (gated gate l) (y ∷ gated gate l)))
    go true true d e f g h = rw (f, g)
    go true false d e f g h =
        rw (f, g)
        (sym (put_first x (cond d (gated gate l) (y ∷ gated gate l)) (subst (λ (b : Bool). All (λ z. T (le x z)) (cond b (gated gate l) (y ∷ gated gate l))) g
        (all_gated_lem gate x (y ∷ l) (subst T (sym e) tt, at_most_all x y (subst T (sym e) tt) l r.0)))))
    go false true true e f g h = rw g h
    go false true false e f g h = rw g (ap {B = List Float} (λ (k : List Float). y ∷ k) h)
    go false false true e f g h = rw g h
    go false false false e f g h = rw (g, e) (ap {B = List Float} (λ (k : List Float). y ∷ k) h)

pub gated_order : (gate : Float) (l : List Float) → Above l → gated gate (in_order l) ≡ in_order (gated gate l)
unfolding in_order gated
gated_order gate [] a = refl
gated_order gate (x ∷ l) a =
    gated_put gate x (in_order l) (in_order_rises l a.1)
    ∙ ap (λ (k : List Float). cond (lt x gate) k (put x k)) (gated_order gate l a.1)
    ∙ go (lt x gate)
  where
    go : (b : Bool) → cond b (in_order (gated gate l)) (put x (in_order (gated gate l))) ≡ in_order (cond b (gated gate l) (x ∷ gated gate l))
    go true = refl
    go false = refl
