-- A set of histories as it is lent.
use Rattle.std.specs.Prelude.{length}
use Rattle.history_set.specs.declared.set.Histories.{Histories as Lent}
use Rattle.history_set.specs.Set.{Histories, histories}

abbrev pub lent : Lent → Histories
lent set = histories set.entries.now (length set.entries.now) set.counters.now set.energies.now
