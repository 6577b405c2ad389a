-- A part of interleaved samples, as the C interface takes it, and how it tells an answer that can lie past the end.
use Rattle.std.specs.Prelude.{ℕ, List, length, Float}
use Rattle.base_refusals.specs.Refusal.{number}
use Rattle.base_refusals.specs.Outcome.{Question, went, refused}
use Rattle.interleaved_slices.specs.Shown.{frames_in, sample_in, Place, at, past_the_end}
use Rattle.interleaved_slices.specs.Parts.{up_to, from_on}

-- what an `Interleaved` holds
pub record Part (A : Type 0) : Type 0 where
  pub samples : List A
  pub channels : ℕ

-- the frames from one on, and before another, both counted in the whole
abbrev pub part_of : {A : Type 0} → ℕ → ℕ → ℕ → List A → Part A
part_of channels first end samples = record { samples = from_on channels first (up_to channels end samples); channels = channels }

-- how many frames a part has, and what stands at a channel's place in a frame of it
abbrev pub frames_of_part : {A : Type 0} → Part A → Question ℕ
frames_of_part part = frames_in part.channels (length part.samples)

abbrev pub sample_of_part : {A : Type 0} → (List A → List Float) → Part A → ℕ → ℕ → Question Place
sample_of_part floats part channel frame = sample_in part.channels (floats part.samples) channel frame

-- past the end has a code more, above those of the refusals
abbrev pub place_code : Question Place → ℕ
place_code (went kept (at x)) = 0
place_code (went kept past_the_end) = 130
place_code (refused r) = number r

-- its sample, through a pointer
abbrev pub sample_else : Float → Question Place → Float
sample_else old (went kept (at x)) = x
sample_else old (went kept past_the_end) = old
sample_else old (refused r) = old
