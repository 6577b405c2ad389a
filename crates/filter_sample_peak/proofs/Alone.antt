-- One channel alone: its peak after a call is its own before it and its own samples, whatever the other channels hold, and "places past the channel count stay".
-- So one channel's samples never alter another channel's peak. Assumes nothing.
use Prim.Native.Nat.{ℕ, ◌≤◌, ◌<◌}
use native.Mathlib.Omega.{arith}
use mathlib.Core.Path.{◌≡◌}
use mathlib.Core.List.{List}
use lib.ListN.{length, get_or}
use lib.Ieee.{Float, nan}
use Rattle.samples.specs.Frames.{channel_of}
use Rattle.base_floats.specs.Entry.{plus_zero}
use Rattle.base_floats.specs.Largest.{greater, largest}
use Rattle.filter_sample_peak.specs.Peak.{peaks_after}
use Rattle.filter_sample_peak.proofs.Loudest.{channels_first, channels_past}

module _ (channels : ℕ) (samples stored : List Float) (k : ℕ) where
  pub own_peak : k < channels → channels ≤ length stored
      → get_or (peaks_after channels samples stored) k nan ≡ greater (get_or stored k nan) (largest plus_zero (channel_of channels samples k))
  unfolding peaks_after
  own_peak h few = channels_first (λ j peak. greater peak (largest plus_zero (channel_of channels samples j))) channels k stored h few

  pub past_peak : channels ≤ k → get_or (peaks_after channels samples stored) k nan ≡ get_or stored k nan
  unfolding peaks_after
  past_peak h = channels_past (λ j peak. greater peak (largest plus_zero (channel_of channels samples j))) channels 0 k stored (omega arith)
