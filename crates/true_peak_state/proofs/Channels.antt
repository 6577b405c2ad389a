-- The channels of a call one after another: each hears its own samples, and no other channel is touched.
-- So a channel's state after a call depends on its own state and its own samples alone, whatever the others hold. Assumes nothing.
use mathlib.Core.Path.{◌≡◌, sym, ap, ◌∙◌}
use mathlib.Core.List.{List}
use Prim.Native.Nat.{ℕ, suc, ◌+◌, ◌*◌, ◌-◌, ◌≤◌, ◌<◌}
use native.Mathlib.Numerals.{add-one}
use native.Mathlib.Omega.{arith}
use lib.ListN.{set}
use lib.Seq.{sets}
use lib.Ieee.{Float}
use Rattle.true_peak_interp.specs.declared.Interp.{Interp}
use Rattle.true_peak_state.specs.declared.TruePeak.{TruePeak}
use Rattle.true_peak_state.specs.Channel.{Channel, heard, past}
use Rattle.true_peak_state.specs.TruePeak.{Heard, channel_of, with_channel, channel_samples, channels_from}

-- a channel's memory and peak put in their places
pub put : (t : TruePeak) (c : ℕ) (ch : Channel) (memory : List Float) (peak : Float) → peak ≡ ch.peak → memory ≡ sets t.memory (c * past) ch.history
    → ◌≡◌ {A = TruePeak} (record { memory = memory; peaks = set t.peaks c peak }) (with_channel t c ch)
put t c ch memory peak e f =
    ap (λ (p : Float). record { memory = memory; peaks = set t.peaks c p }) e ∙ ap (λ (m : List Float). record { memory = m; peaks = set t.peaks c ch.peak }) f

-- ---- one channel more
pub channels_start : (i : Interp) (b : Heard) (n : ℕ) (t : TruePeak) → channels_from i b 0 (n - 0) t ≡ channels_from i b 0 n t
channels_start i b n t = let e : n - 0 ≡ n = omega arith in ap (λ (k : ℕ). channels_from i b 0 k t) e

pub channels_turn : (i : Interp) (b : Heard) (c n : ℕ) (t new : TruePeak) → c < n → new ≡ with_channel t c (heard i (channel_of t c) (channel_samples b c))
    → channels_from i b (c + 1) (n - (c + 1)) new ≡ channels_from i b c (n - c) t
unfolding channels_from
channels_turn i b c n t new h e =
    let f : n - c ≡ suc (n - (c + 1)) = omega arith in
    ap (λ (p : ℕ). channels_from i b p (n - (c + 1)) new) (add-one c)
    ∙ ap (channels_from i b (suc c) (n - (c + 1))) e
    ∙ ap (λ (k : ℕ). channels_from i b c k t) (sym f)

pub channels_end : (i : Interp) (b : Heard) (c n : ℕ) (t : TruePeak) → n ≤ c → t ≡ channels_from i b c (n - c) t
unfolding channels_from
channels_end i b c n t h = let e : 0 ≡ n - c = omega arith in ap (λ (k : ℕ). channels_from i b c k t) e
