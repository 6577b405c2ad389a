-- A run of stores: what stands before it and after it stays, and each place of it holds its value. Assumes nothing.
use Rattle.std.proofs.Common.{◌≡◌, ℕ, zero, suc, ◌+◌, ◌<◌, ◌≤◌, List, [], ◌∷◌, length, get_or, set, refl, ap, ◌∙◌, le_of_suc-le-suc, not-suc-le-zero, arith, length-set, get_or-set_other, get_or-set_same}
use lib.Seq.{sets}
use lib.Ieee.{Float}

pub at_before : (vs l : List Float) (i p : ℕ) (d : Float) → p < i → get_or (sets l i vs) p d ≡ get_or l p d
at_before [] l i p d h = refl
at_before (v ∷ vs) l i p d h = at_before vs (set l i v) (suc i) p d (omega arith) ∙ get_or-set_other l i p v d (λ e. omega arith)

pub at_after : (vs l : List Float) (i p : ℕ) (d : Float) → i + length vs ≤ p → get_or (sets l i vs) p d ≡ get_or l p d
at_after [] l i p d h = refl
at_after (v ∷ vs) l i p d h = at_after vs (set l i v) (suc i) p d (omega arith) ∙ get_or-set_other l i p v d (λ e. omega arith)

pub at_within : (vs l : List Float) (i f : ℕ) (d : Float) → f < length vs → i + f < length l → get_or (sets l i vs) (i + f) d ≡ get_or vs f d
at_within [] l i f d h r = absurd (not-suc-le-zero h)
at_within (v ∷ vs) l i zero d h r =
    let e : i + 0 ≡ i = omega arith in
    ap (λ (p : ℕ). get_or (sets (set l i v) (suc i) vs) p d) e
    ∙ at_before vs (set l i v) (suc i) i d (omega arith)
    ∙ get_or-set_same l i v d (omega arith)
at_within (v ∷ vs) l i (suc f) d h r =
    let e : i + suc f ≡ suc i + f = omega arith in
    ap (λ (p : ℕ). get_or (sets (set l i v) (suc i) vs) p d) e
    ∙ at_within vs (set l i v) (suc i) f d (le_of_suc-le-suc h) (simp length-set (omega arith))
