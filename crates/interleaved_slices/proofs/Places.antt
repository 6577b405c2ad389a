-- Where a channel's sample stands: inside the samples where there is one, and its entry of the channel. Assumes nothing.
use mathlib.Core.Path.{◌≡◌, refl, sym, ap, subst, ◌∙◌}
use mathlib.Core.Bool.{Bool, true, false, cond, ◌&&◌}
use mathlib.Core.List.{List, map}
use Prim.Native.Nat.{ℕ, zero, suc, ◌+◌, ◌*◌, ◌/◌, ◌≤◌, ◌<◌}
use native.Mathlib.Nat.{suc-mul, mul-le-mul_right, div-add-mod', not-suc-le-zero, le_of_suc-le-suc, zero-mul}
use native.Mathlib.Omega.{arith}
use borrow.Author.Tests.{lt-ltb, le-ltb}
use lib.Dec.{ltb}
use lib.ListN.{length, get_or, length-map}
use lib.Ieee.{Float}
use Rattle.samples.specs.Frames.{silence, column, channel_of}
use Rattle.samples.proofs.Columns.{frames_of_lem, entry_of}
use Rattle.interleaved_slices.specs.Places.{sample_at}

pub inside : (channels samples channel frame : ℕ) → channel < channels → frame < samples / channels → frame * channels + channel < samples
inside channels samples channel frame h k =
    omega (arith, suc-mul frame channels, mul-le-mul_right channels k, div-add-mod' samples channels)

pub no_channel : (channels : ℕ) (samples : List Float) (channel frame : ℕ) → channels ≤ channel → sample_at channels samples channel frame ≡ silence
unfolding sample_at
no_channel channels samples channel frame h = rw (le-ltb channel channels h)

and_false : (b : Bool) {A : Type 0} (x y : A) → cond (b && false) x y ≡ y
and_false true x y = refl
and_false false x y = refl

pub no_frame : (channels : ℕ) (samples : List Float) (channel frame : ℕ) → 0 < channels → length samples / channels ≤ frame → sample_at channels samples channel frame ≡ silence
unfolding sample_at
no_frame channels samples channel frame p h =
    rw (frames_of_lem channels (length samples) p, le-ltb frame (length samples / channels) h) (and_false (ltb channel channels) _ _)

pub there : (channels : ℕ) (samples : List Float) (channel frame : ℕ) → channel < channels → frame < length samples / channels
    → sample_at channels samples channel frame ≡ get_or samples (frame * channels + channel) silence
unfolding sample_at
there channels samples channel frame h k =
    rw (frames_of_lem channels (length samples) (omega arith), lt-ltb channel channels h, lt-ltb frame (length samples / channels) k)

-- the same at the samples themselves
module _ {A : Type 0} (f : A → Float) (l : List A) (channels channel frame : ℕ) where
  pub none_of : 0 < channels → length l / channels ≤ frame → sample_at channels (map f l) channel frame ≡ silence
  none_of p h = no_frame channels (map f l) channel frame p (subst (λ (n : ℕ). n / channels ≤ frame) (sym (length-map l f)) h)

  pub sample_of : (d : A) → channel < channels → frame < length l / channels → sample_at channels (map f l) channel frame ≡ f (get_or l (frame * channels + channel) d)
  sample_of d h k =
      there channels (map f l) channel frame h (subst (λ (n : ℕ). frame < n / channels) (sym (length-map l f)) k)
      ∙ entry_of f l (frame * channels + channel) d silence (inside channels (length l) channel frame h k)

column_at : (l : List Float) (at step count i : ℕ) → i < count → get_or (column l at step count) i silence ≡ get_or l (at + i * step) silence
unfolding column
column_at l at step zero i h = absurd (not-suc-le-zero h)
column_at l at step (suc n) zero h = let e : at ≡ at + 0 * step = omega (arith, zero-mul step) in ap (λ (p : ℕ). get_or l p silence) e
column_at l at step (suc n) (suc i) h =
    let e : at + step + i * step ≡ at + suc i * step = omega (arith, suc-mul i step) in
    column_at l (at + step) step n i (le_of_suc-le-suc h) ∙ ap (λ (p : ℕ). get_or l p silence) e

-- frame k's entry of a channel is that channel's sample in frame k
pub channel_at : (channels : ℕ) (samples : List Float) (channel frame : ℕ) → channel < channels → frame < length samples / channels
    → get_or (channel_of channels samples channel) frame silence ≡ sample_at channels samples channel frame
unfolding channel_of
channel_at channels samples channel frame h k =
    let e : channel + frame * channels ≡ frame * channels + channel = omega arith in
    ap (λ (n : ℕ). get_or (column samples channel channels n) frame silence) (frames_of_lem channels (length samples) (omega arith))
    ∙ column_at samples channel channels (length samples / channels) frame k
    ∙ ap (λ (p : ℕ). get_or samples p silence) e
    ∙ sym (there channels samples channel frame h k)
