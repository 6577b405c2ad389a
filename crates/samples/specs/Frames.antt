-- The frames of an interleaved list of samples: a frame is one sample of each channel, channel 0 first.
use Rattle.std.specs.Prelude.{ℕ, zero, suc, ◌+◌, ◌/◌, cond, List, [], ◌∷◌, length, ◌==◌, slice_index_or, Float}
use Rattle.base_floats.specs.Entry.{plus_zero}

-- the channels that states and peaks have places for
abbrev pub most_channels : ℕ
most_channels = 8

-- what stands where there is no sample
abbrev pub silence : Float
silence = plus_zero

-- how many frames so many samples are, and none at no channels
abbrev pub frames_of : ℕ → ℕ → ℕ
frames_of channels samples = cond (channels == 0) 0 (samples / channels)

-- count samples from place at on, one in every step places
unfoldable pub column : List Float → ℕ → ℕ → ℕ → List Float
column samples at step zero = []
column samples at step (suc count) = slice_index_or samples at silence ∷ column samples (at + step) step count

-- a channel's samples, in order
unfoldable pub channel_of : ℕ → List Float → ℕ → List Float
unfolding column
channel_of channels samples channel = column samples channel channels (frames_of channels (length samples))
