-- Runs of stores: two runs that do not meet may change places, and a run over the same places overwrites.
-- Each is by induction over the values stored, from the same law of one store. Assumes nothing.
use Rattle.std.proofs.Common.{◌≡◌, ℕ, suc, ◌+◌, ◌<◌, ◌≤◌, List, [], ◌∷◌, length, set, sym, refl, ap, ◌∙◌, subst, not-suc-le-zero, arith, set-set}
use lib.Seq.{sets, set_comm}
use lib.Ieee.{Float}

-- stores at p and the four places after it, as code writes them
pub five_stores : (l : List Float) (p : ℕ) (x0 x1 x2 x3 x4 : Float) → set (set (set (set (set l p x0) (p + 1) x1) (p + 2) x2) (p + 3) x3) (p + 4) x4 ≡ sets l p (x0 ∷ x1 ∷ x2 ∷ x3 ∷ x4 ∷ [])
five_stores l p x0 x1 x2 x3 x4 =
    let e1 : p + 1 ≡ suc p = omega arith in
    let e2 : p + 2 ≡ suc (suc p) = omega arith in
    let e3 : p + 3 ≡ suc (suc (suc p)) = omega arith in
    let e4 : p + 4 ≡ suc (suc (suc (suc p))) = omega arith in
    rw (e1, e2, e3, e4)

-- ---- changing places

set_before : (vs l : List Float) (i j : ℕ) (a : Float) → i < j → sets (set l i a) j vs ≡ set (sets l j vs) i a
set_before [] l i j a h = refl
set_before (v ∷ vs) l i j a h = ap (λ (t : List Float). sets t (suc j) vs) (set_comm l i j a v (λ e. omega arith)) ∙ set_before vs (set l j v) i (suc j) a (omega arith)

pub sets_comm : (us vs l : List Float) (i j : ℕ) → i + length us ≤ j → sets (sets l i us) j vs ≡ sets (sets l j vs) i us
sets_comm [] vs l i j h = refl
sets_comm (u ∷ us) vs l i j h =
    sets_comm us vs (set l i u) (suc i) j (omega arith) ∙ ap (λ (t : List Float). sets t (suc i) us) (set_before vs l i j u (omega arith))

pub sets_again : (us vs l : List Float) (i : ℕ) → length us ≡ length vs → sets (sets l i us) i vs ≡ sets l i vs
sets_again [] vs l i h = refl
sets_again (u ∷ us) [] l i h = absurd (not-suc-le-zero (subst (λ (n : ℕ). suc (length us) ≤ n) h (omega arith)))
sets_again (u ∷ us) (v ∷ vs) l i h =
    ap (λ (t : List Float). sets t (suc i) vs) (sym (set_before us (set l i u) i (suc i) v (omega arith)) ∙ ap (λ (t : List Float). sets t (suc i) us) (set-set l i u v))
    ∙ sets_again us vs (set l i v) (suc i) (let e : suc (length us) ≡ suc (length vs) = h in omega arith)
