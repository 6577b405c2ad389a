-- Samples in parts of whole frames, one after another: a channel's samples are those of a part and then those of what follows it. A part that is cut off the front of
-- whole frames is whole frames, and so is what follows. Assumes nothing.
use Rattle.std.proofs.Common.{◌≡◌, ℕ, ◌+◌, ◌-◌, ◌*◌, ◌/◌, ◌≤◌, ◌<◌, min, List, ◌++◌, length, take, drop, sym, ap, ◌∙◌, inl, inr, arith, add-mul, length-append}
use native.Mathlib.Nat.{mul-add-div_right, mul-div_cancel, le_of_mul-le-mul_right}
use lib.Seq.{take-append_seam, sets, sets-eq}
use Rattle.std.proofs.lemmas.Bool.{cases_lt}
use Rattle.std.proofs.lemmas.List.{get_or_append_left, get_or-append-add}
use lib.Ieee.{Float}
use Rattle.samples.specs.Frames.{silence, column}
use Rattle.samples.proofs.Columns.{column_append, column_agrees}

-- a has n frames of `step` samples, and b follows it
module _ (a b : List Float) (step n : ℕ) (e : length a ≡ n * step) where
  pub first_column : (j : ℕ) → j < step → column a j step n ≡ column (a ++ b) j step n
  first_column j h =
      let p : 0 + j ≡ j = omega arith in
      column_agrees a (a ++ b) 0 j step n (λ i q. let z : 0 + i ≡ i = omega arith in rw z (sym (get_or_append_left a b silence i (omega arith))))
      ∙ ap (λ (i : ℕ). column (a ++ b) i step n) p

  pub next_column : (j m : ℕ) → column b j step m ≡ column (a ++ b) (j + n * step) step m
  next_column j m =
      let p : length a + j ≡ j + n * step = omega arith in
      column_agrees b (a ++ b) (length a) j step m (λ i q. sym (get_or-append-add a b i silence)) ∙ ap (λ (i : ℕ). column (a ++ b) i step m) p

  pub frames_cut : 0 < step → length (a ++ b) / step ≡ n + length b / step
  frames_cut p = ap (λ (k : ℕ). k / step) (length-append a b ∙ ap (λ (k : ℕ). k + length b) e) ∙ mul-add-div_right p n (length b)

  pub cut_column : (j : ℕ) → j < step → column a j step n ++ column b j step (length b / step) ≡ column (a ++ b) j step (length (a ++ b) / step)
  cut_column j h =
      let m = length b / step in
      ap (λ (l : List Float). l ++ column b j step m) (first_column j h)
      ∙ ap (λ (l : List Float). column (a ++ b) j step n ++ l) (next_column j m)
      ∙ sym (column_append (a ++ b) j step n m)
      ∙ ap (λ (k : ℕ). column (a ++ b) j step k) (sym (frames_cut (omega arith)))

-- ---- a part that is cut off the front of whole frames: s frames, or all that there are

whole_of : (channels k n : ℕ) → 0 < channels → n ≡ k * channels → n / channels * channels ≡ n
whole_of channels k n some e = ap (λ (x : ℕ). x / channels * channels) e ∙ ap (λ (x : ℕ). x * channels) (mul-div_cancel k some) ∙ sym e

module _ (s channels n p : ℕ) (some : 0 < channels) (whole : n / channels * channels ≡ n) (front : p ≡ min (s * channels) n) where
  pub whole_front : p / channels * channels ≡ p
  whole_front = elim (cases_lt n (s * channels)) [
    | inl short ↦ whole_of channels (n / channels) p some (omega arith)
    | inr long ↦ whole_of channels s p some (omega arith)
  ]

  pub whole_back : (m : ℕ) → n ≡ p + m → m / channels * channels ≡ m
  whole_back m all = elim (cases_lt n (s * channels)) [
    | inl short ↦ whole_of channels 0 m some (omega arith)
    | inr long ↦
        let less : s ≤ n / channels = le_of_mul-le-mul_right {m = s} {n = n / channels} {k = channels} (omega arith) some in
        let parts : n / channels - s + s ≡ n / channels = omega arith in
        whole_of channels (n / channels - s) m some (omega (arith, add-mul (n / channels - s) s channels, ap (λ (x : ℕ). x * channels) parts))
  ]

-- a stretch that a part was filled into
pub filled_part : (old stretch part : List Float) → stretch ≡ sets old 0 part → length part ≤ length old → take (length part) stretch ≡ part
filled_part old stretch part e fits =
    ap (take (length part)) (e ∙ sets-eq part old 0 (omega arith)) ∙ take-append_seam part (drop (0 + length part) old)
