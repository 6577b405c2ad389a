-- A call batch by batch: the samples left, from the state as it is, give what all of them give.
-- A batch's samples head those that are left, and a call may be cut between any two frames. Assumes nothing.
use Prim.Native.Nat.{ℕ, min, ◌-◌, ◌*◌, ◌/◌, ◌%◌, ◌≤◌, ◌<◌}
use native.Mathlib.Nat.{zero-div, div-add-mod', div-le_self, eq-zero-or-pos, min-eq_left, min-eq_right}
use native.Mathlib.Omega.{arith}
use mathlib.Core.Path.{◌≡◌, refl, sym, ap, subst, ◌∙◌}
use mathlib.Core.Logic.{inl, inr}
use mathlib.Core.List.{List, [], ◌∷◌, ◌++◌, map}
use Rattle.std.specs.Int.{◌∣◌}
use lib.ListN.{length, length-map}
use lib.Ieee.{Float}
use Rattle.samples.specs.Frames.{column, most_channels}
use Rattle.base_refusals.specs.Rows.{number_of}
use Rattle.filter_checks.specs.Calls.{frame_rows}
use Rattle.samples.proofs.Cutting.{some_frames}
use Rattle.true_peak_interp.specs.Interp.{Kind, upsampled, no_true_peak}
use Rattle.true_peak_state.specs.declared.TruePeak.{TruePeak}
use Rattle.true_peak_state.specs.Channel.{Channel, heard}
use Rattle.true_peak_state.specs.TruePeak.{Heard, channel_of, channel_samples, measured, heard_by}
use Rattle.true_peak_state.proofs.Independence.{Sized, either, measured_sized, own_channel, other_channel, same_state}
use Rattle.true_peak_state.proofs.Cuts.{cut}
use Rattle.true_peak.specs.CallsInner.{places}

-- ---- no samples: nothing moves

no_samples : (channels c : ℕ) → channel_samples (record { channels = channels; samples = [] }) c ≡ []
unfolding column
no_samples channels c = ap (column [] c channels) (zero-div channels)

heard_none : (k : Kind) (ch : Channel) → heard_by k ch [] ≡ ch
unfolding heard_by heard
heard_none (upsampled i) ch = refl
heard_none no_true_peak ch = refl

pub none : (k : Kind) (channels : ℕ) (t : TruePeak) → Sized t → channels ≤ most_channels → measured k (record { channels = channels; samples = [] }) t ≡ t
none k channels t s few =
    let b : Heard = record { channels = channels; samples = [] } in
    same_state (measured k b t) t (measured_sized b t s few k) s
    (λ c h. elim (either c channels) [
      | inl l ↦ own_channel b t s few k c l ∙ ap (heard_by k (channel_of t c)) (no_samples channels c) ∙ heard_none k (channel_of t c)
      | inr l ↦ other_channel b t s few k c l h
    ])

-- ---- whole frames, and the smaller of two lengths that are whole frames

pub dvd_min : (k a b : ℕ) → k ∣ a → k ∣ b → k ∣ min a b
dvd_min k a b h g = elim (eq-zero-or-pos (a - b)) [
  | inl z ↦ subst (λ (n : ℕ). k ∣ n) (sym (min-eq_left {n = a} {m = b} (omega arith))) h
  | inr p ↦ subst (λ (n : ℕ). k ∣ n) (sym (min-eq_right {n = b} {m = a} (omega arith))) g
]

-- ---- the next batch, whole frames

module _ (k : Kind) (channels : ℕ) (some : 0 < channels) (few : channels ≤ most_channels) (now later : List Float) (whole : length now % channels ≡ 0) where
  pub turn : (w w' t : TruePeak) → Sized w → w' ≡ measured k (record { channels = channels; samples = now }) w
      → measured k (record { channels = channels; samples = now ++ later }) w ≡ t → measured k (record { channels = channels; samples = later }) w' ≡ t
  turn w w' t s e inv = ap (measured k (record { channels = channels; samples = later })) e ∙ sym (cut channels some few now later whole k w s) ∙ inv

  pub turn_sized : (w w' : TruePeak) → Sized w → w' ≡ measured k (record { channels = channels; samples = now }) w → Sized w'
  turn_sized w w' s e = subst Sized (sym e) (measured_sized (record { channels = channels; samples = now }) w s few k)

-- no samples are left
pub last : (k : Kind) (channels : ℕ) → channels ≤ most_channels → (left : List Float) → length left ≡ 0 → (w t : TruePeak) → Sized w → measured k (record { channels = channels; samples = left }) w ≡ t → w ≡ t
last k channels few [] h w t s inv = sym (none k channels w s few) ∙ inv
last k channels few (x ∷ left) h w t s inv = absurd (omega arith)

-- ---- the frames of a batch

pub runs_fit : (channels : ℕ) → places / (128 * channels) * 128 * channels ≤ places
runs_fit channels = omega (arith, div-add-mod' places (128 * channels))

pub few_runs : (channels : ℕ) → places / (128 * channels) ≤ places
few_runs channels = div-le_self places (128 * channels)

pub some_runs : (channels : ℕ) → 0 < channels → channels ≤ most_channels → 0 < places / (128 * channels)
some_runs channels h few = some_frames places (128 * channels) (omega arith) (omega arith)

-- ---- the rows go by the number of samples, as the floats that they become have it

pub counted : {A : Type 0} (f : A → Float) (samples : List A) (channels : ℕ) → number_of (frame_rows channels (length samples)) ≡ number_of (frame_rows channels (length (map f samples)))
counted f samples channels = ap (λ (n : ℕ). number_of (frame_rows channels n)) (sym (length-map samples f))
