use Rattle.std.proofs.Common.{◌≡◌, ℕ, ◌*◌, ◌<◌, get_or}
use Rattle.history_set.proofs.Entries.{past_the_last}
use Rattle.exports_entries.specs.Sets.{numbers_an_entry, entry_at}
use Rattle.exports_entries.proofs.read.Given as goal

abbrev pub invariant-loop-i : goal.invariant-loop-i
invariant-loop-i l = (k : ℕ) → k < l.i → get_or l.entries k past_the_last ≡ entry_at l.numbers (k * numbers_an_entry)
