-- `Histories::check` meets its contract: its tests are those of the set's rows, in order. Assumes nothing.
use Rattle.std.proofs.Common.{length, sym, ◌∙◌}
use Rattle.history_set.proofs.Entries.{stores_inside_lem}
use Rattle.history_set.proofs.Rows.{none_reaches}
use Rattle.history_set.proofs.set.Histories.check.Goals as goal

pub all_sound-requires : goal.all_sound-requires
all_sound-requires c =
    let set = c.args.self in
    stores_inside_lem (length set.counters.now) (length set.energies.now) set.entries.now (none_reaches set (sym c.outside.ensures ∙ c.if-outside.false))
