-- The window of a frame as a list, place by place, and a frame's phases as sums that are carried on side by side. Assumes nothing.
use Rattle.std.proofs.Common.{◌≡◌, ℕ, zero, suc, ◌+◌, ◌-◌, ◌*◌, ◌<◌, ◌≤◌, List, [], length, get_or, take, drop, refl, sym, ap, ◌∙◌, arith}
use native.Mathlib.Nat.{not-suc-le-zero, le_of_suc-le-suc}
use lib.ListN.{drop_of_length-le, replicate, length-replicate}
use Rattle.std.proofs.lemmas.List.{get_or-replicate}
use lib.Seq.{length-take-le, get_or-take}
use lib.Ieee.{Float, nan}
use Rattle.base_floats.specs.Entry.{plus_zero}
use Rattle.true_peak_interp.specs.Phase.{plus, summed, phase, phases_from}
use Rattle.true_peak_interp.proofs.Sums.{summed_turn, each_phase}
use Rattle.true_peak_scan.specs.Line.{back}

pub back_length : (l : List Float) (at n : ℕ) → length (back l at n) ≡ n
unfolding back
back_length l at zero = refl
back_length l at (suc n) = ap suc (back_length l at n)

pub back_at : (l : List Float) (at n i : ℕ) → i < n → get_or (back l at n) i nan ≡ get_or l (at + (n - suc i)) nan
unfolding back
back_at l at zero i h = absurd (not-suc-le-zero h)
back_at l at (suc n) zero h = let e : n ≡ suc n - 1 = omega arith in ap (λ (p : ℕ). get_or l (at + p) nan) e
back_at l at (suc n) (suc i) h =
    let e : n - suc i ≡ suc n - suc (suc i) = omega arith in
    back_at l at n i (le_of_suc-le-suc h) ∙ ap (λ (p : ℕ). get_or l (at + p) nan) e

-- the newest samples of a window
window_at : (l : List Float) (at taps i : ℕ) → taps ≤ 24 → i < taps → get_or (take taps (back l at 24)) i nan ≡ get_or l (at + 23 - i) nan
window_at l at taps i h g =
    let e : at + (24 - suc i) ≡ at + 23 - i = omega arith in
    get_or-take taps (back l at 24) i nan g ∙ back_at l at 24 i (omega arith) ∙ ap (λ (p : ℕ). get_or l p nan) e

window_length : (l : List Float) (at taps : ℕ) → taps ≤ 24 → length (take taps (back l at 24)) ≡ taps
window_length l at taps h = length-take-le taps (back l at 24) (omega (arith, back_length l at 24))

-- ---- n sums, carried on to place i of a window: what is left of it gives what all of it gives
pub record Carried (taps : List Float) (factor : ℕ) (window sums : List Float) (i : ℕ) : Type 0 where
  pub size : length sums ≡ factor
  pub left : (f : ℕ) → f < factor → summed taps factor (i * factor + f) (get_or sums f nan) (drop i window) ≡ phase taps factor window f

pub carried_start : (taps : List Float) (factor : ℕ) (window : List Float) → Carried taps factor window (replicate factor plus_zero) 0
carried_start taps factor window = record {
  size = length-replicate factor plus_zero;
  left = λ f g. (
      let z : 0 * factor + f ≡ f = omega arith in
      ap (λ (j : ℕ). summed taps factor j (get_or (replicate factor plus_zero) f nan) window) z ∙ ap (λ (s : Float). summed taps factor f s window) (get_or-replicate factor f plus_zero nan g));
}

pub carried_turn : (taps : List Float) (factor : ℕ) (line : List Float) (at count i : ℕ) (sums more : List Float) → count ≤ 24 → i < count → length more ≡ factor
    → ((f : ℕ) → f < factor → get_or more f nan ≡ plus (get_or sums f nan) (get_or line (at + 23 - i) nan) (get_or taps (i * factor + f) nan))
    → Carried taps factor (take count (back line at 24)) sums i → Carried taps factor (take count (back line at 24)) more (i + 1)
carried_turn taps factor line at count i sums more few h size each c =
    let window = take count (back line at 24) in
    let here : i < length window = omega (arith, window_length line at count few) in
    record {
      size = size;
      left = λ f g. (
          ap (λ (x : Float). summed taps factor ((i + 1) * factor + f) x (drop (i + 1) window)) (each f g ∙ ap (λ (x : Float). plus (get_or sums f nan) x (get_or taps (i * factor + f) nan)) (sym (window_at line at count i few h)))
          ∙ summed_turn taps factor f (get_or sums f nan) window i here
          ∙ c.left f g);
    }

pub carried_end : (taps : List Float) (factor : ℕ) (line : List Float) (at count i : ℕ) (sums : List Float) → count ≤ 24 → count ≤ i
    → Carried taps factor (take count (back line at 24)) sums i → sums ≡ phases_from taps factor (take count (back line at 24)) 0 factor
unfolding summed
carried_end taps factor line at count i sums few h c =
    let window = take count (back line at 24) in
    let none : drop i window ≡ [] = drop_of_length-le window (omega (arith, window_length line at count few)) in
    each_phase taps factor window sums 0 factor c.size
    (λ k g. let z : k ≡ 0 + k = omega arith in sym (ap (summed taps factor (i * factor + k) (get_or sums k nan)) none) ∙ c.left k g ∙ ap (phase taps factor window) z)
