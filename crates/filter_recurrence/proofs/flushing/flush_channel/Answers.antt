-- `flushing::flush_channel` meets its contract: a byte of 0 leaves all as it is, and any other flushes the channel's memory. Assumes nothing.
use Rattle.std.proofs.Common.{ap, ◌∙◌, eq-eqb, ne_eqb}
use Rattle.filter_recurrence.specs.Recurrence.{flushed}
use Rattle.filter_recurrence.specs.Channels.{with_memory}
use Rattle.filter_recurrence.proofs.flushing.flush_channel.Goals as goal

pub returns-then-byte-ne0 : goal.returns-then-byte-ne0
returns-then-byte-ne0 c =
    let a = c.args in
    rw (ne_eqb a.byte 0 c.if-byte-ne0.true) (c.store.ensures ∙ ap (with_memory a.state.now a.k) (c.flushed.ensures ∙ ap flushed c.load.ensures))

pub returns-else-byte-ne0 : goal.returns-else-byte-ne0
returns-else-byte-ne0 c = rw (eq-eqb c.args.byte 0 c.if-byte-ne0.false)
