-- `range::loudness_range` meets its contract, by how many of the histories are queues. Assumes nothing.
use Rattle.std.proofs.Common.{◌≡◌, List, length, refl, sym, ap, ◌∙◌, arith}
use Rattle.base_refusals.specs.Refusal.{number}
use Rattle.base_refusals.proofs.Numbers.{no_number}
use Rattle.history_set.specs.declared.set.Entry.{Entry}
use Rattle.history_set.specs.declared.set.Histories.{Histories as Lent}
use Rattle.history_set.specs.Lent.{lent}
use Rattle.history_set.specs.Set.{all_show, chosen, histories_of}
use Rattle.history_set.proofs.Entries.{all_chosen}
use Rattle.range.specs.Range.{queues_in}
use Rattle.range.proofs.Answers.{shown_length, range_refused, range_histograms, range_queues, range_mixed}
use Rattle.range.proofs.loudness_range.Goals as goal

-- how many of the set's histories are queues, and how many there are
queues_are : (set : Lent) → queues_in (all_show set.counters.now set.energies.now set.entries.now) ≡ queues_in (histories_of (lent set))
queues_are set = ap (λ (l : List Entry). queues_in (all_show set.counters.now set.energies.now l)) (sym (all_chosen set))

as_many : (set : Lent) → length (histories_of (lent set)) ≡ length set.entries.now
as_many set = shown_length set.counters.now set.energies.now (chosen (lent set)) ∙ ap (λ (l : List Entry). length l) (all_chosen set)

pub returns-then-only_histograms : goal.returns-then-only_histograms
returns-then-only_histograms c =
    let set = c.args.set in
    let r = range_histograms (lent set) c.args.work.now (omega (arith, c.queues_in-queues.ensures set.counters.now set.energies.now, queues_are set)) in
    (c.of_histograms.ensures ∙ r.0, r.1)

pub returns-then-only_queues : goal.returns-then-only_queues
returns-then-only_queues c =
    let set = c.args.set in
    let counted = c.queues_in-queues.ensures set.counters.now set.energies.now in
    let same =
    range_queues (lent set) c.args.work.now (λ e. c.if-only_histograms.false (omega (arith, counted, queues_are set, e))) (omega (arith, counted, queues_are set, as_many set)) in
    rw same (c.of_queues.ensures.0, c.of_queues.ensures.1)

pub returns-in-Err : goal.returns-in-Err
returns-in-Err c =
    let r = range_refused (lent c.args.set) c.args.work.now (number c.in-Err.refusal) c.in-Err.ensures (no_number c.in-Err.refusal) in
    (r.says, r.keeps)

pub returns-in-Ok : goal.returns-in-Ok
returns-in-Ok c =
    let set = c.args.set in
    let counted = c.queues_in-queues.ensures set.counters.now set.energies.now in
    let mixed =
    range_mixed (lent set) c.args.work.now (λ e. c.if-only_histograms.false (omega (arith, counted, queues_are set, e)))
    (λ e. c.if-only_queues.false (omega (arith, counted, queues_are set, as_many set, e))) (sym c.in-Ok.ensures) in
    rw mixed (refl, refl)
