use Rattle.std.proofs.Common.{◌≡◌, ◌+◌, ◌-◌, ◌*◌, length}
use Rattle.samples.specs.Frames.{column}
use Rattle.samples.specs.Stretches.{Reach}
use Rattle.filter_recurrence.specs.Recurrence.{after}
use Rattle.filter_weighting.proofs.seeding_channels.advance.Given as goal

abbrev pub invariant-loop-frame : goal.invariant-loop-frame
invariant-loop-frame l =
    let i = l.k + l.frame * l.channels in
    let left = l.frames - l.frame in
    Reach i l.channels left (length l.run) × (after l.a l.w (column l.run i l.channels left) ≡ after l.a l.initial.w (column l.run l.k l.channels l.frames))
