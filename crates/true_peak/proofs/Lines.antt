-- Lines of samples: a line with samples stored after its history gives each frame's window as a run, so hearing the samples is scanning the line.
-- The window of the next frame is this one's without its oldest sample and with one newer. Assumes nothing.
use mathlib.Core.Path.{◌≡◌, refl, sym, ap, ◌∙◌}
use mathlib.Core.Logic.{◌⊎◌, inl, inr}
use mathlib.Core.List.{List, [], ◌∷◌}
use Prim.Native.Nat.{ℕ, zero, suc, ◌+◌, ◌*◌, ◌-◌, ◌≤◌, ◌<◌}
use native.Mathlib.Nat.{not-suc-le-zero, add-zero, eq-or-lt_of_le, mul-le-mul_right}
use native.Mathlib.Omega.{arith}
use lib.ListN.{length, get_or, take, set}
use lib.Seq.{sets, get_or-set_other, get_or-set_same}
use lib.Ieee.{Float, nan}
use Rattle.true_peak_interp.specs.declared.Interp.{Interp}
use Rattle.true_peak_interp.specs.Phase.{phases}
use Rattle.true_peak_state.specs.Channel.{Channel, hear, heard, past}
use Rattle.base_floats.specs.Largest.{greatest, largest}
use Rattle.base_floats.proofs.Magnitude.{largest_append}
use Rattle.true_peak_scan.specs.Line.{back, phases_over}
use Rattle.true_peak_scan.proofs.Windows.{back_length, back_at}
use Rattle.samples.specs.Frames.{silence, column}
use Rattle.samples.proofs.Columns.{within}
use Rattle.true_peak_state.specs.TruePeak.{history_at}
use Rattle.samples.proofs.Stored.{at_before, at_within}
use Rattle.true_peak_state.proofs.Independence.{history_is}

-- ---- runs of a line
-- two lines that agree at m places have the same run there
pub back_same : (l k : List Float) (a b m : ℕ) → ((j : ℕ) → j < m → get_or l (a + j) nan ≡ get_or k (b + j) nan) → back l a m ≡ back k b m
unfolding back
back_same l k a b zero h = refl
back_same l k a b (suc m) h =
    ap (λ (x : Float). x ∷ back l a m) (h m (omega arith)) ∙ ap (λ (r : List Float). get_or k (b + m) nan ∷ r) (back_same l k a b m (λ j g. h j (omega arith)))

-- without its oldest sample a run begins one place later
back_next : (l : List Float) (at n : ℕ) → take n (back l at (suc n)) ≡ back l (suc at) n
unfolding back
back_next l at zero = refl
back_next l at (suc n) =
    let e : at + suc n ≡ suc at + n = omega arith in
    ap (λ (p : ℕ). get_or l p nan ∷ take n (back l at (suc n))) e ∙ ap (λ (r : List Float). get_or l (suc at + n) nan ∷ r) (back_next l at n)

-- ---- hearing samples is scanning the line that holds them
hear_line : (i : Interp) (l : List Float) (at : ℕ) (peak : Float)
    → hear i (record { history = back l at past; peak = peak }) (get_or l (at + past) nan)
    ≡ record { history = back l (suc at) past; peak = largest peak (phases i (back l at 24)) }
unfolding hear back
hear_line i l at peak = ap (λ (h : List Float). record { history = h; peak = largest peak (phases i (back l at 24)) }) (back_next l at 23)

-- the line holds the samples from place at + past on
heard_line : (i : Interp) (l xs : List Float) (at : ℕ) (peak : Float) → ((k : ℕ) → k < length xs → get_or l (at + past + k) nan ≡ get_or xs k nan)
    → heard i (record { history = back l at past; peak = peak }) xs
    ≡ record { history = back l (at + length xs) past; peak = largest peak (phases_over (phases i) l at (length xs)) }
unfolding heard phases_over greatest
heard_line i l [] at peak h = ap (λ (p : ℕ). record { history = back l p past; peak = peak }) (sym (add-zero at))
heard_line i l (x ∷ xs) at peak h =
    let e : at + past + 0 ≡ at + past = omega arith in
    let first : x ≡ get_or l (at + past) nan = sym (h 0 (omega arith)) ∙ ap (λ (p : ℕ). get_or l p nan) e in
    let f : suc at + length xs ≡ at + suc (length xs) = omega arith in
    let later : (k : ℕ) → k < length xs → get_or l (suc at + past + k) nan ≡ get_or xs k nan =
    λ k g. (let q : suc at + past + k ≡ at + past + suc k = omega arith in ap (λ (p : ℕ). get_or l p nan) q ∙ h (suc k) (omega arith)) in
    ap (λ (y : Float). heard i (hear i (record { history = back l at past; peak = peak }) y) xs) first
    ∙ ap (λ (ch : Channel). heard i ch xs) (hear_line i l at peak)
    ∙ heard_line i l xs (suc at) (largest peak (phases i (back l at 24))) later
    ∙ ap (λ (p : ℕ). record { history = back l p past; peak = largest (largest peak (phases i (back l at 24))) (phases_over (phases i) l (suc at) (length xs)) }) f
    ∙ ap (λ (v : Float). record { history = back l (at + suc (length xs)) past; peak = v }) (sym (largest_append peak (phases i (back l at 24)) (phases_over (phases i) l (suc at) (length xs))))

-- a line with samples stored after its history
pub heard_stored : (i : Interp) (l xs : List Float) (peak : Float) → past + length xs ≤ length l
    → heard i (record { history = back l 0 past; peak = peak }) xs
    ≡ record { history = back (sets l past xs) (length xs) past; peak = largest peak (phases_over (phases i) (sets l past xs) 0 (length xs)) }
heard_stored i l xs peak h =
    let stored = sets l past xs in
    let e : 0 + length xs ≡ length xs = omega arith in
    ap (λ (r : List Float). heard i (record { history = r; peak = peak }) xs) (back_same l stored 0 0 past (λ j g. sym (at_before xs l past (0 + j) nan (omega arith))))
    ∙ heard_line i stored xs 0 peak (λ k g. (let q : 0 + past + k ≡ past + k = omega arith in ap (λ (p : ℕ). get_or stored p nan) q ∙ at_within xs l past k nan g (omega arith)))
    ∙ ap (λ (p : ℕ). record { history = back stored p past; peak = largest peak (phases_over (phases i) stored 0 (length xs)) }) e

-- ---- the last samples of a line become its first
pub record Moved (old l : List Float) (n k : ℕ) : Type 0 where
  pub done : (j : ℕ) → j < k → get_or l j nan ≡ get_or old (n + j) nan
  pub kept : (j : ℕ) → k ≤ j → get_or l j nan ≡ get_or old j nan

pub moved_start : (l : List Float) (n : ℕ) → Moved l l n 0
moved_start l n = record { done = λ j h. absurd (not-suc-le-zero h); kept = λ j h. refl }

pub moved_turn : (old l : List Float) (n k : ℕ) → k < length l → Moved old l n k → Moved old (set l k (get_or l (n + k) nan)) n (k + 1)
moved_turn old l n k h m = record {
  done = λ j g. next j (eq-or-lt_of_le (omega arith)) g;
  kept = λ j g. get_or-set_other l k j (get_or l (n + k) nan) nan (λ e. omega arith) ∙ m.kept j (omega arith);
}
  where
    next : (j : ℕ) → (j ≡ k) ⊎ (j < k) → j < k + 1 → get_or (set l k (get_or l (n + k) nan)) j nan ≡ get_or old (n + j) nan
    next j (inl e) g =
        ap (λ (p : ℕ). get_or (set l k (get_or l (n + k) nan)) p nan) e
        ∙ get_or-set_same l k (get_or l (n + k) nan) nan h
        ∙ m.kept (n + k) (omega arith)
        ∙ ap (λ (p : ℕ). get_or old (n + p) nan) (sym e)
    next j (inr f) g = get_or-set_other l k j (get_or l (n + k) nan) nan (λ e. omega arith) ∙ m.done j f

pub moved_end : (old l : List Float) (n k : ℕ) → past ≤ k → Moved old l n k → back l 0 past ≡ back old n past
moved_end old l n k h m =
    back_same l old 0 n past (λ j g. (let e : 0 + j ≡ j = omega arith in ap (λ (p : ℕ). get_or l p nan) e ∙ m.done j (omega arith)))

-- ---- a channel's history, newest first in the memory, and its line, oldest first
pub record Recalled (memory l : List Float) (c k : ℕ) : Type 0 where
  pub recalled : (j : ℕ) → j < k → get_or l (22 - j) nan ≡ get_or memory (c * past + j) nan

pub recalled_start : (memory l : List Float) (c : ℕ) → Recalled memory l c 0
recalled_start memory l c = record { recalled = λ j h. absurd (not-suc-le-zero h) }

pub recalled_turn : (memory l : List Float) (c k : ℕ) → k < past → past ≤ length l → Recalled memory l c k
    → Recalled memory (set l (22 - k) (get_or memory (c * past + k) nan)) c (k + 1)
recalled_turn memory l c k h r m = record { recalled = λ j g. next j (eq-or-lt_of_le (omega arith)) g }
  where
    next : (j : ℕ) → (j ≡ k) ⊎ (j < k) → j < k + 1
        → get_or (set l (22 - k) (get_or memory (c * past + k) nan)) (22 - j) nan ≡ get_or memory (c * past + j) nan
    next j (inl e) g =
        ap (λ (p : ℕ). get_or (set l (22 - k) (get_or memory (c * past + k) nan)) (22 - p) nan) e
        ∙ get_or-set_same l (22 - k) (get_or memory (c * past + k) nan) nan (omega arith)
        ∙ ap (λ (p : ℕ). get_or memory (c * past + p) nan) (sym e)
    next j (inr f) g =
        get_or-set_other l (22 - k) (22 - j) (get_or memory (c * past + k) nan) nan (λ e. omega arith) ∙ m.recalled j f

pub recalled_end : (memory l : List Float) (c k : ℕ) → past ≤ k → c * past + past ≤ length memory → Recalled memory l c k → back l 0 past ≡ history_at memory c
recalled_end memory l c k h r m =
    sym (history_is memory (back l 0 past) c r (back_length l 0 past) (λ j g. (
    let e : 0 + (past - suc j) ≡ 22 - j = omega arith in
    sym (back_at l 0 past j g ∙ ap (λ (p : ℕ). get_or l p nan) e ∙ m.recalled j (omega arith)))))

-- the line's first places go to the memory one by one
pub kept_turn : (memory l : List Float) (p k : ℕ) → k < past
    → sets (set memory (p + k) (get_or l (22 - k) nan)) (p + (k + 1)) (back l 0 (past - (k + 1))) ≡ sets memory (p + k) (back l 0 (past - k))
unfolding back
kept_turn memory l p k h =
    let e : past - k ≡ suc (22 - k) = omega arith in
    let f : past - (k + 1) ≡ 22 - k = omega arith in
    let g : p + (k + 1) ≡ suc (p + k) = omega arith in
    let z : 22 - k ≡ 0 + (22 - k) = omega arith in
    ap (λ (n : ℕ). sets (set memory (p + k) (get_or l (22 - k) nan)) n (back l 0 (past - (k + 1)))) g
    ∙ ap (λ (n : ℕ). sets (set memory (p + k) (get_or l (22 - k) nan)) (suc (p + k)) (back l 0 n)) f
    ∙ ap (λ (n : ℕ). sets (set memory (p + k) (get_or l n nan)) (suc (p + k)) (back l 0 (22 - k))) z
    ∙ ap (λ (n : ℕ). sets memory (p + k) (back l 0 n)) (sym e)

pub kept_start : (memory l : List Float) (p : ℕ) → sets memory (p + 0) (back l 0 (past - 0)) ≡ sets memory p (back l 0 past)
kept_start memory l p = let e : p + 0 ≡ p = omega arith in ap (λ (n : ℕ). sets memory n (back l 0 past)) e

pub kept_end : (memory l : List Float) (p k : ℕ) → past ≤ k → memory ≡ sets memory (p + k) (back l 0 (past - k))
unfolding back
kept_end memory l p k h = let e : 0 ≡ past - k = omega arith in ap (λ (n : ℕ). sets memory (p + k) (back l 0 n)) e

-- ---- a channel's samples go to the line one by one
pub gathered_turn : (samples l : List Float) (first step n k : ℕ) (x : Float) → k < n → first + k * step < length samples → x ≡ get_or samples (first + k * step) nan
    → sets (set l (past + k) x) (past + (k + 1)) (column samples (first + (k + 1) * step) step (n - (k + 1))) ≡ sets l (past + k) (column samples (first + k * step) step (n - k))
unfolding column
gathered_turn samples l first step n k x h here is =
    let i = first + k * step in
    let e : n - k ≡ suc (n - (k + 1)) = omega arith in
    let g : past + (k + 1) ≡ suc (past + k) = omega arith in
    let next : first + (k + 1) * step ≡ i + step = omega arith in
    ap (λ (v : Float). sets (set l (past + k) v) (past + (k + 1)) (column samples (first + (k + 1) * step) step (n - (k + 1)))) (is ∙ within samples i nan silence here)
    ∙ ap (λ (at : ℕ). sets (set l (past + k) (get_or samples i silence)) (past + (k + 1)) (column samples at step (n - (k + 1)))) next
    ∙ ap (λ (p : ℕ). sets (set l (past + k) (get_or samples i silence)) p (column samples (i + step) step (n - (k + 1)))) g
    ∙ ap (λ (m : ℕ). sets l (past + k) (column samples i step m)) (sym e)

pub gathered_start : (samples l : List Float) (first step n : ℕ) → sets l past (column samples (first + 0 * step) step (n - 0)) ≡ sets l past (column samples first step n)
gathered_start samples l first step n =
    let z : first + 0 * step ≡ first = omega arith in
    let e : n - 0 ≡ n = omega arith in
    ap (λ (at : ℕ). sets l past (column samples at step (n - 0))) z ∙ ap (λ (m : ℕ). sets l past (column samples first step m)) e

pub gathered_end : (samples l : List Float) (i step n k : ℕ) → n ≤ k → l ≡ sets l (past + k) (column samples i step (n - k))
unfolding column
gathered_end samples l i step n k h = let e : 0 ≡ n - k = omega arith in ap (λ (m : ℕ). sets l (past + k) (column samples i step m)) e

-- in a turn there is a sample left
pub sample_left : (length first step n k : ℕ) → k < n → first + n * step < length + step → first + k * step < length
sample_left length first step n k h r = let m : (k + 1) * step ≤ n * step = mul-le-mul_right step (omega arith) in omega arith
