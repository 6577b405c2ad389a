-- What a call of the true peak makes of its state, over interleaved samples (01, steps 5 and 6): each channel, unused ones too, hears its own samples and no others.
use Rattle.std.specs.Prelude.{List, ℕ, zero, suc, ◌*◌, ◌/◌, length, get_or, take, drop, set, replicate, Float}
use Rattle.std.proofs.lemmas.List.Edits.{sets}
use Rattle.std.specs.Float.{nan}
use Rattle.base_floats.specs.Entry.{plus_zero}
use Rattle.samples.specs.Frames.{column, most_channels}
use Rattle.true_peak_interp.specs.declared.Interp.{Interp}
use Rattle.true_peak_interp.specs.Interp.{Kind, upsampled, no_true_peak}
use Rattle.true_peak_state.specs.declared.TruePeak.{TruePeak}
use Rattle.true_peak_state.specs.Channel.{Channel, past, heard}

-- channel c's history stands in the flat memory at `past` places, from c * past on
abbrev pub history_at : List Float → ℕ → List Float
history_at memory c = take past (drop (c * past) memory)

abbrev pub channel_of : TruePeak → ℕ → Channel
channel_of t c = record { history = history_at t.memory c; peak = get_or t.peaks c nan }

abbrev pub with_channel : TruePeak → ℕ → Channel → TruePeak
with_channel t c ch = record { memory = sets t.memory (c * past) ch.history; peaks = set t.peaks c ch.peak }

-- a call's samples: how many channels they interleave, and themselves
pub record Heard : Type 0 where
  pub channels : ℕ
  pub samples : List Float

abbrev pub frames_of : Heard → ℕ
frames_of b = length b.samples / b.channels

-- the samples of channel c
abbrev pub channel_samples : Heard → ℕ → List Float
channel_samples b c = column b.samples c b.channels (frames_of b)

-- n channels from channel c on hear their samples; the others stay
unfoldable pub channels_from : Interp → Heard → ℕ → ℕ → TruePeak → TruePeak
channels_from i b c zero t = t
channels_from i b c (suc n) t = channels_from i b (suc c) n (with_channel t c (heard i (channel_of t c) (channel_samples b c)))

-- "else no true peak and stored peaks stay"
unfoldable pub measured : Kind → Heard → TruePeak → TruePeak
unfolding channels_from
measured (upsampled i) b t = channels_from i b 0 b.channels t
measured no_true_peak b t = t

-- what one channel becomes in a call, by what the rate has
unfoldable pub heard_by : Kind → Channel → List Float → Channel
heard_by (upsampled i) ch xs = heard i ch xs
heard_by no_true_peak ch xs = ch

-- before the start
abbrev pub silent : TruePeak
silent = record { memory = replicate (most_channels * past) plus_zero; peaks = replicate most_channels plus_zero }
