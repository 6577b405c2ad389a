-- `seeding_channels::advance_channel` meets its contract: a byte of 0 leaves all as it is, and any other puts the channel's memory through `advance`. Assumes nothing.
use Rattle.std.proofs.Common.{ap, ◌∙◌, ne_eqb, arith}
use Rattle.samples.specs.Frames.{column}
use Rattle.filter_recurrence.specs.declared.Memory.{Memory}
use Rattle.filter_recurrence.specs.Recurrence.{after}
use Rattle.filter_recurrence.specs.Channels.{with_memory}
use Rattle.filter_weighting.proofs.seeding_channels.advance_channel.Goals as goal

pub returns : goal.returns
returns c =
    let a = c.args in
    rw (ne_eqb a.byte 0 (λ e. omega arith))
    (c.store.ensures
    ∙ ap (with_memory a.state.now a.k)
    (c.advance.ensures ∙ ap (λ (m : Memory). after a.a m (column a.run.now a.k a.channels a.frames)) c.load-m.ensures))
