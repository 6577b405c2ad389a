-- What an `Interleaved` shows of the samples it holds. 01, step 2: "`Interleaved` shows a lent slice as frames."
use Rattle.std.specs.Prelude.{ℕ, cond, ◌&&◌, List, ltb, length, Float}
use Rattle.base_refusals.specs.Outcome.{Question, answers}
use Rattle.samples.specs.Frames.{frames_of}
use Rattle.interleaved_slices.specs.Places.{sample_at}
use Rattle.base_refusals.specs.Rows.{by_rows}
use Rattle.filter_checks.specs.Calls.{frame_rows}

-- an answer over so many samples, after CHANNELS and SAMPLES
abbrev pub checked : {Values : Type 0} → ℕ → ℕ → Values → Question Values
checked channels samples values = by_rows (frame_rows channels samples) (answers values)

-- how many frames there are
abbrev pub frames_in : ℕ → ℕ → Question ℕ
frames_in channels samples = checked channels samples (frames_of channels samples)

-- what stands at a channel's place in a frame: a sample, or nothing, since the channel or the frame lies past the end
pub data Place : Type 0 where
  at : Float → Place
  past_the_end : Place

-- so many samples, with the one given at the place asked for
abbrev pub sample_or : ℕ → ℕ → ℕ → ℕ → Float → Question Place
sample_or channels samples channel frame sample =
    checked channels samples (cond (ltb channel channels && ltb frame (frames_of channels samples)) (at sample) past_the_end)

-- a channel's sample in a frame
abbrev pub sample_in : ℕ → List Float → ℕ → ℕ → Question Place
sample_in channels samples channel frame = sample_or channels (length samples) channel frame (sample_at channels samples channel frame)
