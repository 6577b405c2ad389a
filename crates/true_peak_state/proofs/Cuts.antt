-- Calls may be cut between any two frames: the state after samples and then more samples is the state after all of them.
-- Each channel hears the same samples in the same order, and states with the same channels are the same. Assumes nothing.
use mathlib.Core.Path.{◌≡◌, refl, sym, ap, ◌∙◌}
use mathlib.Core.Logic.{inl, inr}
use mathlib.Core.List.{List, [], ◌∷◌, ◌++◌}
use Prim.Native.Nat.{ℕ, zero, suc, ◌+◌, ◌*◌, ◌/◌, ◌%◌, ◌≤◌, ◌<◌}
use native.Mathlib.Nat.{suc-mul, mul-add-div_right, div-add-mod'}
use native.Mathlib.Omega.{arith}
use lib.ListN.{length, get_or, length-append, get_or-append}
use lib.Seq.{get_or-append-add}
use lib.Ieee.{Float}
use Rattle.true_peak_interp.specs.declared.Interp.{Interp}
use Rattle.true_peak_interp.specs.Interp.{Kind, upsampled, no_true_peak}
use Rattle.true_peak_state.specs.declared.TruePeak.{TruePeak}
use Rattle.true_peak_state.specs.Channel.{Channel, hear, heard}
use Rattle.samples.specs.Frames.{silence, column, most_channels}
use Rattle.samples.proofs.Columns.{column_append}
use Rattle.true_peak_state.specs.TruePeak.{Heard, channel_of, channel_samples, measured, heard_by}
use Rattle.true_peak_state.proofs.Independence.{Sized, either, measured_sized, own_channel, other_channel, same_state}

pub heard_append : (i : Interp) (ch : Channel) (xs ys : List Float) → heard i ch (xs ++ ys) ≡ heard i (heard i ch xs) ys
unfolding heard
heard_append i ch [] ys = refl
heard_append i ch (x ∷ xs) ys = heard_append i (hear i ch x) xs ys

heard_by_append : (k : Kind) (ch : Channel) (xs ys : List Float) → heard_by k ch (xs ++ ys) ≡ heard_by k (heard_by k ch xs) ys
unfolding heard_by
heard_by_append (upsampled i) ch xs ys = heard_append i ch xs ys
heard_by_append no_true_peak ch xs ys = refl

-- ---- the columns of two lists one after the other
column_left : (xs ys : List Float) (at step n : ℕ) → at + n * step < length xs + step → column (xs ++ ys) at step n ≡ column xs at step n
unfolding column
column_left xs ys at step zero h = refl
column_left xs ys at step (suc n) h =
    ap (λ (v : Float). v ∷ column (xs ++ ys) (at + step) step n) (get_or-append xs ys silence at (omega (arith, suc-mul n step)))
    ∙ ap (λ (r : List Float). get_or xs at silence ∷ r) (column_left xs ys (at + step) step n (omega (arith, suc-mul n step)))

column_right : (xs ys : List Float) (at step n from : ℕ) → from ≡ length xs + at → column (xs ++ ys) from step n ≡ column ys at step n
unfolding column
column_right xs ys at step zero from e = refl
column_right xs ys at step (suc n) from e =
    ap (λ (v : Float). v ∷ column (xs ++ ys) (from + step) step n) (ap (λ (p : ℕ). get_or (xs ++ ys) p silence) e ∙ get_or-append-add xs ys at silence)
    ∙ ap (λ (r : List Float). get_or ys at silence ∷ r) (column_right xs ys (at + step) step n (from + step) (omega arith))

module _ (channels : ℕ) (some : 0 < channels) (few : channels ≤ most_channels) (xs ys : List Float) (whole : length xs % channels ≡ 0) where
  source : List Float → Heard
  source samples = record { channels = channels; samples = samples }

  exact : length xs / channels * channels ≡ length xs
  exact = omega (arith, div-add-mod' (length xs) channels)

  frames_add : length (xs ++ ys) / channels ≡ length xs / channels + length ys / channels
  frames_add =
      ap (λ (n : ℕ). n / channels) (length-append xs ys ∙ ap (λ (n : ℕ). n + length ys) (sym exact)) ∙ mul-add-div_right some (length xs / channels) (length ys)

  samples_append : (c : ℕ) → c < channels → channel_samples (source (xs ++ ys)) c ≡ channel_samples (source xs) c ++ channel_samples (source ys) c
  unfolding source
  samples_append c h =
      let n = length xs / channels in
      let m = length ys / channels in
      ap (column (xs ++ ys) c channels) frames_add
      ∙ column_append (xs ++ ys) c channels n m
      ∙ ap (λ (l : List Float). l ++ column (xs ++ ys) (c + n * channels) channels m) (column_left xs ys c channels n (omega (arith, exact)))
      ∙ ap (λ (l : List Float). column xs c channels n ++ l) (column_right xs ys c channels m (c + n * channels) (omega (arith, exact)))

  pub cut : (k : Kind) (t : TruePeak) → Sized t
      → measured k (record { channels = channels; samples = xs ++ ys }) t
      ≡ measured k (record { channels = channels; samples = ys }) (measured k (record { channels = channels; samples = xs }) t)
  unfolding source
  cut k t s =
      same_state (measured k (source (xs ++ ys)) t) (measured k (source ys) first) (measured_sized (source (xs ++ ys)) t s few k) (measured_sized (source ys) first sized few k)
      (λ c h. elim (either c channels) [ inl l ↦ heard_twice c l | inr l ↦ untouched c l h ])
    where
      first : TruePeak
      first = measured k (source xs) t

      sized : Sized first
      sized = measured_sized (source xs) t s few k

      heard_twice : (c : ℕ) → c < channels → channel_of (measured k (source (xs ++ ys)) t) c ≡ channel_of (measured k (source ys) first) c
      heard_twice c l =
          own_channel (source (xs ++ ys)) t s few k c l
          ∙ ap (heard_by k (channel_of t c)) (samples_append c l)
          ∙ heard_by_append k (channel_of t c) (channel_samples (source xs) c) (channel_samples (source ys) c)
          ∙ ap (λ (ch : Channel). heard_by k ch (channel_samples (source ys) c)) (sym (own_channel (source xs) t s few k c l))
          ∙ sym (own_channel (source ys) first sized few k c l)

      untouched : (c : ℕ) → channels ≤ c → c < most_channels → channel_of (measured k (source (xs ++ ys)) t) c ≡ channel_of (measured k (source ys) first) c
      untouched c l h =
          other_channel (source (xs ++ ys)) t s few k c l h
          ∙ sym (other_channel (source ys) first sized few k c l h ∙ other_channel (source xs) t s few k c l h)
