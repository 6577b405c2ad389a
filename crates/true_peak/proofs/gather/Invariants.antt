use Rattle.std.proofs.Common.{◌≡◌, ◌+◌, ◌*◌, ◌-◌, map}
use lib.Seq.{sets}
use Rattle.true_peak_state.specs.Channel.{past}
use Rattle.samples.specs.Frames.{column}
use Rattle.true_peak.proofs.gather.Given as goal

abbrev pub invariant-loop-k : goal.invariant-loop-k
invariant-loop-k g l =
    sets l.line (past + l.k) (column (map g.S.Sample.in_f32 l.samples) (l.first + l.k * l.step) l.step (l.n - l.k))
    ≡ sets l.initial.line past (column (map g.S.Sample.in_f32 l.samples) l.first l.step l.n)
