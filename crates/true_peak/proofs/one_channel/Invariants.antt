use mathlib.Core.Path.{◌≡◌}
use Prim.Native.Nat.{◌+◌, ◌*◌, ◌<◌}
use lib.ListN.{length}
use mathlib.Core.List.{map}
use Rattle.true_peak_state.specs.Channel.{channel, heard, past}
use Rattle.true_peak_scan.specs.Line.{back}
use Rattle.samples.specs.Frames.{column}
use Rattle.true_peak_state.specs.TruePeak.{history_at}
use Rattle.true_peak.proofs.one_channel.Given as goal

abbrev pub invariant-loop-left : goal.invariant-loop-left
invariant-loop-left g l =
    (l.first + l.left * l.channels < length l.samples + l.channels)
    × (heard l.kernel.i (channel (back l.line 0 past) l.loud) (column (map g.S.Sample.in_f32 l.samples) l.first l.channels l.left)
    ≡ heard l.kernel.i (channel (history_at l.memory l.c) l.peak) (column (map g.S.Sample.in_f32 l.samples) l.c l.channels l.frames))

abbrev pub decreases-loop-left : goal.decreases-loop-left
decreases-loop-left g l = l.left
