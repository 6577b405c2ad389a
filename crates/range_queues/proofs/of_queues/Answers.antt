-- `range_queues::of_queues` meets its contract: the set's refusals first, then what its queues hold. Assumes nothing.
use mathlib.Core.Path.{◌≡◌, sym, ap, ◌∙◌}
use mathlib.Core.Bool.{false}
use mathlib.Core.List.{List}
use lib.Ieee.{Float}
use lib.ListN.{length}
use Rattle.base_refusals.specs.Refusal.{number}
use Rattle.base_refusals.specs.declared.Refusal.TheVariants.{SET, STORE}
use Rattle.base_refusals.proofs.Numbers.{no_number}
use Rattle.history_set.specs.Lent.{lent}
use Rattle.history_set.specs.Set.{chosen, outside_set, all_sound}
use Rattle.history_set.proofs.Entries.{all_chosen, stores_inside_lem}
use Rattle.history_set.proofs.Rows.{none_outside, none_reaches, set_refused, one_unsound, all_well}
use Rattle.range_queues.specs.Listed.{queue_range}
use Rattle.range_queues.specs.Inner.{held_in, listed_range}
use Rattle.range_queues.proofs.Looking.{held_any, looked_fine, looked_not}
use Rattle.range_queues.proofs.Answers.{queues_refused, queues_asked}
use Rattle.range_queues.proofs.of_queues.Goals as goal

pub returns-then-outside : goal.returns-then-outside
returns-then-outside c =
    let h = lent c.args.set in
    let r = queues_refused h c.args.work.now (number SET) (sym (set_refused h (sym c.outside.ensures ∙ c.if-outside.true))) (no_number SET) in
    (r.says, r.keeps)

pub look-requires : goal.look-requires
look-requires c =
    let set = c.args.set in
    let reaches : outside_set (lent set) ≡ false = sym c.outside.ensures ∙ c.if-outside.false in (
      (none_outside (lent set) reaches).0,
      stores_inside_lem (length set.counters.now) (length set.energies.now) set.entries.now (none_reaches set reaches),
    )

pub in_order-requires : goal.in_order-requires
in_order-requires c =
    let set = c.args.set in
    let reaches : outside_set (lent set) ≡ false = sym c.outside.ensures ∙ c.if-outside.false in
    let known = looked_fine (all_sound set.energies.now set.entries.now) c.in-Some.seen _ c.in-Some.ensures in
    (stores_inside_lem (length set.counters.now) (length set.energies.now) set.entries.now (none_reaches set reaches), known.0, known.1)

pub returns-in-Some : goal.returns-in-Some
returns-in-Some c =
    let set = c.args.set in
    let h = lent set in
    let work = c.args.work.now in
    let inside : outside_set h ≡ false = sym c.outside.ensures ∙ c.if-outside.false in
    let sound = (looked_fine (all_sound set.energies.now set.entries.now) c.in-Some.seen _ c.in-Some.ensures).0 in
    let is : queue_range h work ≡ listed_range (held_in set.energies.now set.entries.now) work =
    queues_asked h work (all_well h inside (ap (all_sound set.energies.now) (all_chosen set) ∙ sound))
    ∙ ap (λ (l : List Float). listed_range l work) (sym (held_any set.counters.now set.energies.now (chosen h)) ∙ ap (held_in set.energies.now) (all_chosen set)) in
    rw is (c.in_order.ensures.0, c.in_order.ensures.1)

pub returns-in-None : goal.returns-in-None
returns-in-None c =
    let set = c.args.set in
    let h = lent set in
    let inside : outside_set h ≡ false = sym c.outside.ensures ∙ c.if-outside.false in
    let unsound = looked_not (all_sound set.energies.now set.entries.now) _ c.in-None.ensures in
    let r = queues_refused h c.args.work.now (number STORE) (sym (one_unsound h inside (ap (all_sound set.energies.now) (all_chosen set) ∙ unsound))) (no_number STORE) in
    (r.says, r.keeps)
