-- `sums::of_set` meets its contract. The invariant: the stores and the totals of the histories from here on, on top of what was added, give what all
-- give. Assumes nothing.
use Rattle.std.proofs.lemmas.Result.{err_from_is_err_and}
use Rattle.std.proofs.Common.{ℕ, ◌≡◌, ◌+◌, false, length, drop, sym, refl, ap, ◌∙◌, arith}
use lib.Ieee.{Float}
use Rattle.history_set.specs.Lent.{lent}
use Rattle.history_set.specs.Set.{outside_set, all_show}
use Rattle.history_set.proofs.Entries.{inside_at, all_found, all_passed, all_end, shows_next, shows_end}
use Rattle.history_set.proofs.Rows.{none_outside, none_reaches}
use Rattle.gate.specs.declared.blocks.Totals.{Totals}
use Rattle.gate.specs.Totals.{with_blocks}
use Rattle.gate.specs.Sums.{all_totals}
use Rattle.gate.proofs.Asked.{outside_asked, unsound_asked, sound_asked}
use Rattle.gate.proofs.sums.of_set.Goals as goal
use Rattle.gate.proofs.sums.of_set.Goals.{Else-outside}

-- SET does not refuse it
inside : (c : Else-outside) → outside_set (lent c.args.set) ≡ false
inside c = sym c.outside.ensures ∙ c.if-outside.false

-- the totals so far
abbrev so_far : ℕ → Float → Totals
so_far count sum = record { count = count; sum = sum }

pub returns-then-outside : goal.returns-then-outside
returns-then-outside c = outside_asked c.args.set (sym c.outside.ensures ∙ c.if-outside.true)

pub loop-entry-init : goal.loop-entry-init
loop-entry-init c = (omega arith, refl, refl)

pub of_history-requires : goal.of_history-requires
of_history-requires c =
    let set = c.args.set in
    inside_at (length set.counters.now) (length set.energies.now) set.entries.now c.loop-entry.entry-index (omega arith)
    (none_reaches set (inside (goal.at.of_history-requires c).Else-outside))

pub returns-in_err-one : goal.returns-in_err-one
returns-in_err-one c =
    let set = c.args.set in
    let is = c.in_err-one.ensures in
    let p = err_from_is_err_and c.from_residual.result c.from_residual.ensures.1 in
    rw (p.1, p.2, is.1)
    (unsound_asked set (inside (goal.at.returns-in_err-one c).Else-outside)
    (sym c.loop-entry.invariant.1 ∙ all_found set.energies.now set.entries.now c.loop-entry.entry-index (omega arith) is.0))

pub overflow_add-count : goal.overflow_add-count
overflow_add-count c = omega (arith, c.in_ok-one.ensures.2, (none_outside (lent c.args.set) (inside (goal.at.overflow_add-count c).Else-outside)).0)

pub loop-entry-preserved : goal.loop-entry-preserved
unfolding all_totals
loop-entry-preserved c =
    let set = c.args.set in
    let counters = set.counters.now in
    let energies = set.energies.now in
    let entries = set.entries.now in
    let l = c.loop-entry in
    let i = l.entry-index in
    let is = c.in_ok-one.ensures in (
      omega (arith, is.2),
      sym (all_passed energies entries i (omega arith) is.0) ∙ l.invariant.1,
      ap (λ (one : Totals). all_totals (with_blocks (so_far l.count l.sum) one.count one.sum) (all_show counters energies (drop (i + 1) entries))) is.1
          ∙ sym (ap (all_totals (so_far l.count l.sum)) (shows_next counters energies entries i (omega arith)))
          ∙ l.invariant.2,
    )

pub returns : goal.returns
unfolding all_totals
returns c =
    let set = c.args.set in
    let counters = set.counters.now in
    let energies = set.energies.now in
    let entries = set.entries.now in
    let l = c.loop-entry in
    let i = l.entry-index in
    sound_asked set (inside (goal.at.returns c).Else-outside)
    (sym l.invariant.1 ∙ all_end energies entries i (omega arith))
    (so_far l.count l.sum)
    (sym (ap (all_totals (so_far l.count l.sum)) (shows_end counters energies entries i (omega arith))) ∙ l.invariant.2)
