-- Filling a stretch, of whatever kind: what is still to be stored, from place i on, gives what all of it gives from place 0.
-- A turn stores the sample at place i, which heads what is left; past the end of the stretch or of the samples nothing is left to store. Assumes nothing.
use Rattle.std.proofs.Common.{◌≡◌, ℕ, suc, ◌+◌, ◌-◌, ◌<◌, ◌≤◌, min, ◌⊎◌, List, [], ◌∷◌, map, length, get_or, drop, set, sym, refl, ap, ◌∙◌, inl, inr, ⊎_elim, le_trans, le_of_eq, eq-zero-or-pos, add-one, arith, length-set, drop_of_length-le, drop-cons}
use lib.Seq.{sets, set_out}
use lib.Ieee.{Float}

pub past_end : (vs stretch : List Float) (i : ℕ) → length stretch ≤ i → sets stretch i vs ≡ stretch
past_end [] stretch i h = refl
past_end (v ∷ vs) stretch i h = rw (set_out stretch i v h) (past_end vs stretch (suc i) (omega arith))

-- what the stretch comes to when the samples from place i on are stored as well
abbrev pub filled : {A : Type 0} → (A → Float) → List A → List Float → ℕ → List Float
filled f from stretch i = sets stretch i (map f (drop i from))

-- the stretch as it stands at place i, on its way from `stretch₀`
pub record Filling {A : Type 0} (f : A → Float) (from : List A) (stretch₀ stretch : List Float) (i : ℕ) : Type 0 where
  pub same : length stretch ≡ length stretch₀
  pub rest : filled f from stretch i ≡ sets stretch₀ 0 (map f from)

module _ {A : Type 0} (f : A → Float) (from : List A) (stretch₀ stretch : List Float) (i : ℕ) where
  pub turn : (d : A) (x : Float) → i < length from → x ≡ f (get_or from i d) → Filling f from stretch₀ stretch i → Filling f from stretch₀ (set stretch i x) (i + 1)
  turn d x h e now =
      record {
        same = length-set stretch i x ∙ now.same;
        rest =
            ap (λ (n : ℕ). sets (set stretch i x) n (map f (drop n from))) (add-one i)
            ∙ ap (λ (y : Float). sets (set stretch i y) (suc i) (map f (drop (suc i) from))) e
            ∙ ap (λ (l : List A). sets stretch i (map f l)) (sym (drop-cons from i d h))
            ∙ now.rest;
      }

  pub ends : length stretch₀ ≤ i ⊎ length from ≤ i → Filling f from stretch₀ stretch i → stretch ≡ sets stretch₀ 0 (map f from)
  ends (inl h) now = sym (past_end (map f (drop i from)) stretch i (le_trans (le_of_eq now.same) h)) ∙ now.rest
  ends (inr h) now = ap (λ (l : List A). sets stretch i (map f l)) (sym (drop_of_length-le from h)) ∙ now.rest

pub starts : {A : Type 0} (f : A → Float) (from : List A) (stretch : List Float) → Filling f from stretch stretch 0
starts f from stretch = record { same = refl; rest = refl }

-- the loop stops at the shorter of the two lengths
pub at_shorter : (a b i : ℕ) → min a b ≤ i → a ≤ i ⊎ b ≤ i
at_shorter a b i h = ⊎_elim (λ (z : a - i ≡ 0). inl (omega arith)) (λ (p : 0 < a - i). inr (omega arith)) (eq-zero-or-pos (a - i))
