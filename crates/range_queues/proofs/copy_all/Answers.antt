-- `range_queues::copy_all` meets its contract. The invariant: what the entries from here on hold, stored from `at` on, gives what all of it gives.
-- Assumes nothing.
use Rattle.std.proofs.Common.{length, get_or, sym, ap, ◌∙◌, arith}
use lib.Seq.{sets, length-sets}
use Rattle.history_set.proofs.Entries.{past_the_last, sound_at}
use Rattle.range_queues.specs.Inner.{held_at}
use Rattle.range_queues.proofs.Looking.{store_at, suits_sound, held_end, held_count, held_set}
use Rattle.range_queues.proofs.copy_all.Goals as goal

pub copy_held-at-requires : goal.copy_held-at-requires
copy_held-at-requires c =
    let energies = c.args.energies.now in
    let entries = c.args.entries.now in
    let i = c.loop-entry.entry-index in (
      store_at (length energies) entries i (omega arith) c.requires.0,
      suits_sound energies (get_or entries i past_the_last).shape (sound_at energies entries i (omega arith) c.requires.1),
      omega (arith, held_count energies entries i (omega arith)),
    )

pub loop-entry-preserved : goal.loop-entry-preserved
loop-entry-preserved c =
    let done = c.copy_held-at in
    let energies = c.args.energies.now in
    let entries = c.args.entries.now in
    let l = c.loop-entry in
    let i = l.entry-index in (
      omega (arith, ap length done.ensures.0, length-sets l.work l.at (held_at energies (get_or entries i past_the_last))),
      omega (arith, done.ensures.1, held_count energies entries i (omega arith)),
      held_set energies entries i (omega arith) l.work done.new.work l.at done.result done.ensures.0 done.ensures.1 ∙ l.invariant.2,
    )

pub returns : goal.returns
returns c =
    let l = c.loop-entry in
    sym (ap (sets l.work l.at) (held_end c.args.energies.now c.args.entries.now l.entry-index (omega arith))) ∙ l.invariant.2
