-- `range_histograms::of_histograms` meets its contract: the set's refusals first, then counters that start from 0 and have every histogram added.
-- Assumes nothing.
use Rattle.std.proofs.Common.{ℕ, ◌≤◌, List, length, get_or, sym, ap, ◌∙◌, arith}
use Rattle.base_refusals.specs.Outcome.{says, said_by}
use Rattle.base_refusals.specs.Refusal.{number}
use Rattle.base_refusals.proofs.Numbers.{no_number}
use Rattle.history_histogram.specs.Histogram.{empty}
use Rattle.history_set.specs.declared.set.Entry.{Entry}
use Rattle.history_set.specs.Lent.{lent}
use Rattle.history_set.specs.Set.{all_show, counters_end}
use Rattle.history_set.proofs.Entries.{past_the_last, every_at, all_chosen, all_counters_inside}
use Rattle.history_set.proofs.Rows.{kept_lent}
use Rattle.range_histograms.specs.Counted.{added_to, counted_span}
use Rattle.range_histograms.proofs.Adding.{added_any}
use Rattle.range_histograms.proofs.Single.{one_entry, one_added}
use Rattle.range_histograms.proofs.Answers.{histogram_refused, histogram_asked}
use Rattle.range_histograms.proofs.of_histograms.Goals as goal

pub returns-in-Err : goal.returns-in-Err
returns-in-Err c = histogram_refused (lent c.args.set) (number c.in-Err.refusal) (c.in-Err.ensures) (no_number c.in-Err.refusal)

pub alone-requires : goal.alone-requires
alone-requires c =
    let set = c.args.set in
    let inside = all_counters_inside (length set.counters.now) (length set.energies.now) set.entries.now (kept_lent set (sym (c.in_default.ensures))).inside in
    every_at (λ entry. counters_end entry.shape ≤ length set.counters.now) set.entries.now 0 (omega arith) inside

pub returns-in-len1 : goal.returns-in-len1
returns-in-len1 c =
    let set = c.args.set in
    let entry = get_or set.entries.now 0 past_the_last in
    c.alone.ensures
    ∙ ap (λ (l : List ℕ). says (counted_span l))
    (one_added set.counters.now set.energies.now entry
    ∙ ap (λ (l : List Entry). added_to empty (all_show set.counters.now set.energies.now l)) (one_entry set.entries.now (omega arith) ∙ sym (all_chosen set)))
    ∙ sym (ap said_by (histogram_asked (lent set) (sym c.in_default.ensures)))

pub together-requires : goal.together-requires
together-requires c =
    let set = c.args.set in
    let kept = kept_lent set (sym c.in_default.ensures) in
    (kept.few, all_counters_inside (length set.counters.now) (length set.energies.now) set.entries.now kept.inside)

pub returns : goal.returns
returns c =
    let set = c.args.set in
    c.together.ensures
    ∙ ap (λ (l : List ℕ). says (counted_span l))
    (added_any set.counters.now set.energies.now set.entries.now empty
    ∙ ap (λ (l : List Entry). added_to empty (all_show set.counters.now set.energies.now l)) (sym (all_chosen set)))
    ∙ sym (ap said_by (histogram_asked (lent set) (sym c.in_default.ensures)))
