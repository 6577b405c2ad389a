-- `exports_entries::read` meets its contract: each entry was read. Assumes nothing.
use Rattle.std.proofs.Common.{ap, ◌∙◌, arith}
use Rattle.history_set.proofs.Entries.{past_the_last}
use Rattle.exports_entries.specs.Sets.{entries_from}
use Rattle.exports_entries.proofs.Reading.{all_read}
use Rattle.exports_entries.proofs.read.Goals as goal

pub returns : goal.returns
returns c =
    let l = c.loop-i in
    all_read c.args.numbers.now l.entries past_the_last (λ i h. l.invariant i (omega arith)) ∙ ap (entries_from c.args.numbers.now 0) l.auto.entries
