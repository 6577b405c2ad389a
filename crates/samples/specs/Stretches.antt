-- A call's samples in stretches: what the inner functions rely on once nothing is refused.
use Rattle.std.specs.Prelude.{◌≡◌, ℕ, ◌+◌, ◌*◌, ◌/◌, ◌<◌, ◌≤◌}
use Rattle.samples.specs.Frames.{most_channels}

-- the places of a stretch
abbrev pub stretch_places : ℕ
stretch_places = 1024

-- the places of a run
abbrev pub run_places : ℕ
run_places = 128

-- count samples from place first on, one in every step places, lie within a stretch of so many places
pub record Reach (first step count size : ℕ) : Type 0 where
  pub few : step ≤ most_channels
  pub within : first + count * step < size + step

-- so many samples are whole frames of few channels
pub record Framed (channels samples : ℕ) : Type 0 where
  pub some : 0 < channels
  pub few : channels ≤ most_channels
  pub whole : samples / channels * channels ≡ samples
