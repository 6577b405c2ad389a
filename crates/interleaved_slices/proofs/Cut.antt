-- The frames of the two parts of a split, one after the other, are the frames of the whole.
-- The first part holds whole frames, so the frames of the two lists, one after the other, are those of their frames; past the end one part is the whole and the other is empty. Assumes nothing.
use mathlib.Core.Path.{◌≡◌, sym, ap, ◌∙◌}
use mathlib.Core.List.{List, [], ◌∷◌, ◌++◌, append-nil}
use mathlib.Core.Logic.{◌⊎◌, inl, inr, ⊎_elim}
use Prim.Native.Nat.{ℕ, zero, suc, ◌+◌, ◌-◌, ◌*◌, ◌/◌, ◌≤◌, ◌<◌}
use native.Mathlib.Nat.{suc-mul, zero-div, zero-mul, mul-div_cancel, mul-add-div_right, eq-zero-or-pos}
use native.Mathlib.Omega.{arith}
use lib.ListN.{length, take, drop, length-append, length-drop, take-append-drop, drop_of_length-le}
use lib.Seq.{take_all, length-take-le, take-append-le, drop-append-le}
use Rattle.samples.specs.Frames.{frames_of}
use Rattle.samples.proofs.Columns.{frames_of_lem}
use Rattle.interleaved_slices.specs.Parts.{up_to, from_on, cut_into, shown}
use Rattle.interleaved_slices.proofs.Splitting.{fits, ends_before}

side : (frame n : ℕ) → frame ≤ n ⊎ n < frame
side frame n = ⊎_elim (λ (z : frame - n ≡ 0). inl (omega arith)) (λ (q : 0 < frame - n). inr (omega arith)) (eq-zero-or-pos (frame - n))

module _ {A : Type 0} (channels : ℕ) where
  cut : (n m : ℕ) (a b : List A) → length a ≡ n * channels → cut_into channels (n + m) (a ++ b) ≡ cut_into channels n a ++ cut_into channels m b
  unfolding cut_into
  cut zero m [] b e = let z : 0 + m ≡ m = omega arith in ap (λ (k : ℕ). cut_into channels k b) z
  cut zero m (x ∷ a) b e = absurd (let z : suc (length a) ≡ 0 = e ∙ zero-mul channels in omega arith)
  cut (suc n) m a b e =
      let s : suc n + m ≡ suc (n + m) = omega arith in
      let h : channels ≤ length a = omega (arith, suc-mul n channels, e) in
      let d : length (drop channels a) ≡ n * channels = length-drop channels a ∙ (let g : length a - channels ≡ n * channels = omega (arith, suc-mul n channels, e) in g) in
      ap (λ (k : ℕ). cut_into channels k (a ++ b)) s
      ∙ (λ i. take-append-le channels a b h i ∷ cut_into channels (n + m) (drop-append-le channels a b h i))
      ∙ ap (λ (t : List (List A)). take channels a ∷ t) (cut n m (drop channels a) b d)

  module _ (p : 0 < channels) where
    -- the frames of whole frames and what follows them
    joined : (n : ℕ) (a b : List A) → length a ≡ n * channels → shown channels a ++ shown channels b ≡ shown channels (a ++ b)
    joined n a b e =
        let first : frames_of channels (length a) ≡ n = frames_of_lem channels (length a) p ∙ ap (λ (k : ℕ). k / channels) e ∙ mul-div_cancel n p in
        let all : frames_of channels (length (a ++ b)) ≡ n + frames_of channels (length b) =
        frames_of_lem channels (length (a ++ b)) p
        ∙ ap (λ (k : ℕ). k / channels) (length-append a b ∙ ap (λ (k : ℕ). k + length b) e)
        ∙ mul-add-div_right p n (length b)
        ∙ ap (λ (k : ℕ). n + k) (sym (frames_of_lem channels (length b) p)) in
        ap (λ (k : ℕ). cut_into channels k a ++ shown channels b) first
        ∙ sym (cut n (frames_of channels (length b)) a b e)
        ∙ ap (λ (k : ℕ). cut_into channels k (a ++ b)) (sym all)

    none : (samples : List A) → length samples ≡ 0 → shown channels samples ≡ []
    unfolding cut_into
    none samples e = ap (λ (k : ℕ). cut_into channels k samples) (ap (frames_of channels) e ∙ frames_of_lem channels 0 p ∙ zero-div channels)

    both : (frame : ℕ) (samples : List A) → frame ≤ length samples / channels ⊎ length samples / channels < frame
        → shown channels (up_to channels frame samples) ++ shown channels (from_on channels frame samples) ≡ shown channels samples
    both frame samples (inl h) =
        joined frame (up_to channels frame samples) (from_on channels frame samples) (length-take-le (frame * channels) samples (fits channels frame (length samples) h))
        ∙ ap (shown channels) (take-append-drop (frame * channels) samples)
    both frame samples (inr h) =
        let end : length samples ≤ frame * channels = ends_before channels frame (length samples) p h in
        ap (λ (l : List A). shown channels l ++ shown channels (from_on channels frame samples)) (take_all (frame * channels) samples end)
        ∙ ap (λ (t : List (List A)). shown channels samples ++ t) (none (from_on channels frame samples) (ap length (drop_of_length-le samples end)))
        ∙ append-nil (shown channels samples)

    pub parts : (frame : ℕ) (samples : List A) → shown channels (up_to channels frame samples) ++ shown channels (from_on channels frame samples) ≡ shown channels samples
    parts frame samples = both frame samples (side frame (length samples / channels))
