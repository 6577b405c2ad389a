-- `true_peak::listen` meets its contract: the channel is taken out of the flat state and put back. Assumes nothing.
use mathlib.Core.List.{map}
use Rattle.true_peak_state.specs.Channel.{heard}
use Rattle.samples.specs.Frames.{column}
use Rattle.true_peak_state.specs.TruePeak.{channel_of}
use Rattle.true_peak_state.proofs.Channels.{put}
use Rattle.true_peak.proofs.listen.Goals as goal

pub returns : goal.returns
returns g c =
    let a = c.args in
    put a.t a.c (heard a.kernel.now.i (channel_of a.t a.c) (column (map g.S.Sample.in_f32 a.samples.now) a.c a.channels a.frames)) c.one_channel-loud.new.memory c.one_channel-loud.result
    c.one_channel-loud.ensures.0 c.one_channel-loud.ensures.1
