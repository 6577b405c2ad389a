-- The place of a channel's sample in a frame.
use Rattle.std.specs.Prelude.{ℕ, ◌+◌, ◌*◌, List, cond, ◌&&◌, ltb, length, get_or, Float}
use Rattle.samples.specs.Frames.{silence, frames_of}

-- the sample of a channel in a frame
unfoldable pub sample_at : ℕ → List Float → ℕ → ℕ → Float
sample_at channels samples channel frame =
    cond (ltb channel channels && ltb frame (frames_of channels (length samples))) (get_or samples (frame * channels + channel) silence) silence
