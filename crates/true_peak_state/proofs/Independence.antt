-- One channel's samples never alter another channel's peak or memory: after a call each channel that has samples is what its own state and its own samples make of it,
-- and every other channel is as it was. The channels' places in the flat state do not overlap, so storing one keeps the others. Assumes nothing.
use mathlib.Core.Path.{◌≡◌, refl, sym, ap, ◌∙◌, subst}
use mathlib.Core.Logic.{◌⊎◌, inl, inr}
use mathlib.Core.List.{List, [], ◌∷◌}
use Prim.Native.Nat.{ℕ, zero, suc, ◌+◌, ◌*◌, ◌-◌, ◌/◌, ◌%◌, ◌≤◌, ◌<◌, min}
use native.Mathlib.Nat.{div-add-mod', mod-lt, eq-zero-or-pos, eq-or-lt_of_le}
use native.Mathlib.Omega.{arith}
use lib.ListN.{length, get_or, drop, length-take, length-drop, length-set}
use lib.Seq.{sets, length-sets, ext_get_or, get_or-take, get_or-drop, get_or-set_other, get_or-set_same}
use lib.Ieee.{Float, nan}
use Rattle.true_peak_interp.specs.declared.Interp.{Interp}
use Rattle.true_peak_interp.specs.Interp.{Kind, upsampled, no_true_peak}
use Rattle.true_peak_state.specs.declared.TruePeak.{TruePeak}
use Rattle.true_peak_state.specs.Channel.{Channel, hear, heard, past}
use Rattle.true_peak_state.specs.TruePeak.{Heard, history_at, channel_of, with_channel, channel_samples, channels_from, measured, heard_by}
use Rattle.samples.proofs.Stored.{at_before, at_within, at_after}
use Rattle.samples.specs.Frames.{most_channels}

-- a state as the code has it
pub record Sized (t : TruePeak) : Type 0 where
  pub memory_size : length t.memory ≡ most_channels * past
  pub peaks_size : length t.peaks ≡ most_channels

-- ---- a channel's places in the memory
history_length : (m : List Float) (c : ℕ) → c * past + past ≤ length m → length (history_at m c) ≡ past
history_length m c h = simp (length-take, length-drop) (omega arith)

history_at_lem : (m : List Float) (c j : ℕ) → j < past → get_or (history_at m c) j nan ≡ get_or m (c * past + j) nan
history_at_lem m c j h = get_or-take past (drop (c * past) m) j nan h ∙ get_or-drop (c * past) m j nan

pub history_is : (m h : List Float) (c : ℕ) → c * past + past ≤ length m → length h ≡ past → ((j : ℕ) → j < past → get_or m (c * past + j) nan ≡ get_or h j nan) → history_at m c ≡ h
history_is m h c r e f =
    ext_get_or nan (history_at m c) h (history_length m c r ∙ sym e)
    (λ j g. (let g' : j < past = subst (λ (n : ℕ). j < n) (history_length m c r) g in history_at_lem m c j g' ∙ f j g'))

-- ---- a history keeps its length
hear_length : (i : Interp) (ch : Channel) (x : Float) → length ch.history ≡ past → length (hear i ch x).history ≡ past
unfolding hear
hear_length i ch x e = ap suc (length-take 22 ch.history ∙ least (length ch.history) e)
  where
    least : (n : ℕ) → n ≡ past → min 22 n ≡ 22
    least n e = ap (min 22) e

heard_length : (i : Interp) (ch : Channel) (xs : List Float) → length ch.history ≡ past → length (heard i ch xs).history ≡ past
unfolding heard
heard_length i ch [] e = e
heard_length i ch (x ∷ xs) e = heard_length i (hear i ch x) xs (hear_length i ch x e)

pub either : (d c : ℕ) → (d < c) ⊎ (c ≤ d)
either d c = elim (eq-zero-or-pos (c - d)) [ inl z ↦ inr (omega arith) | inr p ↦ inl (omega arith) ]

-- ---- one channel stored: it is there, and the others are as they were
same_channel : (a b : Channel) → a.history ≡ b.history → a.peak ≡ b.peak → a ≡ b
same_channel a b e f = ap (λ (h : List Float). record { history = h; peak = a.peak }) e ∙ ap (λ (p : Float). record { history = b.history; peak = p }) f

module _ (t : TruePeak) (s : Sized t) (c : ℕ) (ch : Channel) (long : length ch.history ≡ past) where
  with_sized : Sized (with_channel t c ch)
  with_sized = record {
    memory_size = length-sets t.memory (c * past) ch.history ∙ s.memory_size;
    peaks_size = length-set t.peaks c ch.peak ∙ s.peaks_size;
  }

  with_own : c < most_channels → channel_of (with_channel t c ch) c ≡ ch
  with_own h =
      same_channel (channel_of (with_channel t c ch) c) ch
      (history_is (sets t.memory (c * past) ch.history) ch.history c (omega (arith, with_sized.memory_size)) long
      (λ j g. at_within ch.history t.memory (c * past) j nan (omega arith) (omega (arith, s.memory_size))))
      (get_or-set_same t.peaks c ch.peak nan (omega (arith, s.peaks_size)))

  with_other : (d : ℕ) → d < most_channels → (d ≡ c → ⊥) → channel_of (with_channel t c ch) d ≡ channel_of t d
  with_other d h n =
      same_channel (channel_of (with_channel t c ch) d) (channel_of t d)
      (history_is (sets t.memory (c * past) ch.history) (history_at t.memory d) d (omega (arith, with_sized.memory_size))
      (history_length t.memory d (omega (arith, s.memory_size)))
      (λ j g. apart j g ∙ sym (history_at_lem t.memory d j g)))
      (get_or-set_other t.peaks c d ch.peak nan n)
    where
      apart : (j : ℕ) → j < past → get_or (sets t.memory (c * past) ch.history) (d * past + j) nan ≡ get_or t.memory (d * past + j) nan
      apart j g = elim (either d c) [
        | inl l ↦ at_before ch.history t.memory (c * past) (d * past + j) nan (omega arith)
        | inr l ↦ at_after ch.history t.memory (c * past) (d * past + j) nan (omega arith)
      ]

-- ---- n channels from channel c on
module _ (i : Interp) (b : Heard) where
  after : TruePeak → ℕ → TruePeak
  after t c = with_channel t c (heard i (channel_of t c) (channel_samples b c))

  after_long : (t : TruePeak) → Sized t → (c : ℕ) → c < most_channels → length (heard i (channel_of t c) (channel_samples b c)).history ≡ past
  after_long t s c h = heard_length i (channel_of t c) (channel_samples b c) (history_length t.memory c (omega (arith, s.memory_size)))

  after_sized : (t : TruePeak) → Sized t → (c : ℕ) → c < most_channels → Sized (after t c)
  unfolding after
  after_sized t s c h = with_sized t s c (heard i (channel_of t c) (channel_samples b c)) (after_long t s c h)

  from_sized : (n c : ℕ) (t : TruePeak) → Sized t → c + n ≤ most_channels → Sized (channels_from i b c n t)
  unfolding channels_from after
  from_sized zero c t s h = s
  from_sized (suc n) c t s h = from_sized n (suc c) (after t c) (after_sized t s c (omega arith)) (omega arith)

  -- a channel that is not among them is as it was
  from_other : (n c : ℕ) (t : TruePeak) → Sized t → c + n ≤ most_channels → (d : ℕ) → d < most_channels → (d < c) ⊎ (c + n ≤ d) → channel_of (channels_from i b c n t) d ≡ channel_of t d
  unfolding channels_from after
  from_other zero c t s h d g o = refl
  from_other (suc n) c t s h d g o =
      from_other n (suc c) (after t c) (after_sized t s c (omega arith)) (omega arith) d g (elim o [ inl l ↦ inl (omega arith) | inr l ↦ inr (omega arith) ])
      ∙ with_other t s c (heard i (channel_of t c) (channel_samples b c)) (after_long t s c (omega arith)) d g (λ e. elim o [ inl l ↦ omega arith | inr l ↦ omega arith ])

  -- one that is among them is what its own state and its own samples make of it
  from_own : (n c : ℕ) (t : TruePeak) → Sized t → c + n ≤ most_channels → (d : ℕ) → c ≤ d → d < c + n
      → channel_of (channels_from i b c n t) d ≡ heard i (channel_of t d) (channel_samples b d)
  unfolding channels_from after
  from_own zero c t s h d g l = absurd (omega arith)
  from_own (suc n) c t s h d g l = elim (eq-or-lt_of_le g) [
    | inl e ↦
        from_other n (suc c) (after t c) (after_sized t s c (omega arith)) (omega arith) d (omega arith) (inl (omega arith))
        ∙ ap (channel_of (after t c)) (sym e)
        ∙ with_own t s c (heard i (channel_of t c) (channel_samples b c)) (after_long t s c (omega arith)) (omega arith)
        ∙ ap (λ (k : ℕ). heard i (channel_of t k) (channel_samples b k)) e
    | inr f ↦
        from_own n (suc c) (after t c) (after_sized t s c (omega arith)) (omega arith) d f (omega arith)
        ∙ ap (λ (ch : Channel). heard i ch (channel_samples b d))
        (with_other t s c (heard i (channel_of t c) (channel_samples b c)) (after_long t s c (omega arith)) d (omega arith) (λ e. omega arith))
  ]

-- ---- a call: every channel by itself
module _ (b : Heard) (t : TruePeak) (s : Sized t) (few : b.channels ≤ most_channels) where
  pub measured_sized : (k : Kind) → Sized (measured k b t)
  unfolding measured
  measured_sized (upsampled i) = from_sized i b b.channels 0 t s (omega arith)
  measured_sized no_true_peak = s

  pub own_channel : (k : Kind) (c : ℕ) → c < b.channels → channel_of (measured k b t) c ≡ heard_by k (channel_of t c) (channel_samples b c)
  unfolding measured heard_by
  own_channel (upsampled i) c h = from_own i b b.channels 0 t s (omega arith) c (omega arith) (omega arith)
  own_channel no_true_peak c h = refl

  pub other_channel : (k : Kind) (c : ℕ) → b.channels ≤ c → c < most_channels → channel_of (measured k b t) c ≡ channel_of t c
  unfolding measured
  other_channel (upsampled i) c h g = from_other i b b.channels 0 t s (omega arith) c g (inr (omega arith))
  other_channel no_true_peak c h g = refl

-- two calls in which a channel has the same state and the same samples leave it the same, whatever the other channels have
pub independent : (k : Kind) (b d : Heard) (t u : TruePeak) → Sized t → Sized u → b.channels ≤ most_channels → d.channels ≤ most_channels
    → (c : ℕ) → c < b.channels → c < d.channels → channel_of t c ≡ channel_of u c → channel_samples b c ≡ channel_samples d c
    → channel_of (measured k b t) c ≡ channel_of (measured k d u) c
independent k b d t u s v h g c hc gc e f =
    own_channel b t s h k c hc
    ∙ ap (λ (ch : Channel). heard_by k ch (channel_samples b c)) e
    ∙ ap (heard_by k (channel_of u c)) f
    ∙ sym (own_channel d u v g k c gc)

-- ---- states with the same channels are the same
module _ (t u : TruePeak) (s : Sized t) (v : Sized u) (same : (c : ℕ) → c < most_channels → channel_of t c ≡ channel_of u c) where
  same_memory : t.memory ≡ u.memory
  same_memory =
      ext_get_or nan t.memory u.memory (s.memory_size ∙ sym v.memory_size)
      (λ p h. (
      let c = p / past in
      let j = p % past in
      let e : p ≡ c * past + j = sym (div-add-mod' p past) in
      let g : j < past = mod-lt p (omega arith) in
      let f : c < most_channels = omega (arith, s.memory_size) in
      ap (λ (q : ℕ). get_or t.memory q nan) e
      ∙ sym (history_at_lem t.memory c j g)
      ∙ ap (λ (ch : Channel). get_or ch.history j nan) (same c f)
      ∙ history_at_lem u.memory c j g
      ∙ ap (λ (q : ℕ). get_or u.memory q nan) (sym e)))

  same_peaks : t.peaks ≡ u.peaks
  same_peaks =
      ext_get_or nan t.peaks u.peaks (s.peaks_size ∙ sym v.peaks_size)
      (λ c h. ap (λ (ch : Channel). ch.peak) (same c (omega (arith, s.peaks_size))))

  pub same_state : t ≡ u
  same_state = ap (λ (m : List Float). record { memory = m; peaks = t.peaks }) same_memory ∙ ap (λ (p : List Float). record { memory = u.memory; peaks = p }) same_peaks
