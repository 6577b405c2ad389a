-- `exports_range::asked` meets its contract: the set is that of the numbers, or SET refuses them. Assumes nothing.
use Rattle.std.proofs.Common.{refl, ap, ◌∙◌}
use Rattle.base_refusals.specs.Outcome.{said_by, kept_by}
use Rattle.history_set.specs.Set.{Histories}
use Rattle.range.specs.Range.{range_of}
use Rattle.exports_entries.proofs.Asked.{asked_refused, asked_entries}
use Rattle.exports_range.proofs.Sets.{range_of_set}
use Rattle.exports_range.proofs.asked.Goals as goal

pub returns-in-Ok : goal.returns-in-Ok
returns-in-Ok c =
    let a = c.args in
    let is = c.in-Ok.ensures in
    let same = asked_entries (λ (h : Histories). range_of h a.work.now) (range_of_set a.work.now) a.numbers.now a.counters.now a.energies.now is.0 c.in-Ok.entries.now is.1 in
    (c.loudness_range.ensures.0 ∙ ap said_by same, c.loudness_range.ensures.1 ∙ ap (kept_by a.work.now) same)

pub returns-in-Err : goal.returns-in-Err
returns-in-Err c =
    let a = c.args in
    let refused = asked_refused (λ (h : Histories). range_of h a.work.now) (range_of_set a.work.now) a.numbers.now a.counters.now a.energies.now c.in-Err.ensures.0 in
    rw (refused, c.in-Err.ensures.1) (refl, refl)
