-- `gate::all_gated` meets its contract. The invariant: the histories from here on, on top of what was kept, give what all give. Assumes nothing.
use Rattle.std.proofs.Common.{ℕ, ◌+◌, length, get_or, drop, sym, refl, ap, ◌∙◌, arith}
use lib.Ieee.{Float}
use Rattle.history_set.specs.Set.{shows, all_show}
use Rattle.history_set.proofs.Entries.{past_the_last, inside_at, sound_at, shows_next, shows_end}
use Rattle.history_set.proofs.Rows.{KeptLent, kept_lent}
use Rattle.gate.specs.declared.blocks.Totals.{Totals}
use Rattle.gate.specs.Totals.{none}
use Rattle.gate.proofs.Nothing.{nothing_steady}
use Rattle.gate.specs.Gate.{all_gated}
use Rattle.gate.proofs.Asked.{shown}
use Rattle.gate.proofs.Gating.{gated_on}
use Rattle.gate.proofs.all_gated.Goals as goal
use Rattle.gate.proofs.all_gated.Goals.{At-loop-entry}

well : (c : At-loop-entry) → KeptLent c.args.set
well c = kept_lent c.args.set c.requires

-- the totals so far
abbrev so_far : ℕ → Float → Totals
so_far count sum = record { count = count; sum = sum }

pub loop-entry-init : goal.loop-entry-init
loop-entry-init c = (nothing_steady, omega arith, refl)

pub history_gated-gated-requires : goal.history_gated-gated-requires
history_gated-gated-requires c =
    let set = c.args.set in
    let i = c.loop-entry.entry-index in
    let k = well (goal.at.history_gated-gated-requires c).At-loop-entry in (
      inside_at (length set.counters.now) (length set.energies.now) set.entries.now i (omega arith) k.inside,
      sound_at set.energies.now set.entries.now i (omega arith) k.stores,
      c.start-bin.ensures,
      c.loop-entry.invariant.0,
    )

pub overflow_add-count : goal.overflow_add-count
overflow_add-count c = let k = well (goal.at.overflow_add-count c).At-loop-entry in omega (arith, k.few, c.history_gated-gated.ensures.1)

pub loop-entry-preserved : goal.loop-entry-preserved
unfolding all_gated
loop-entry-preserved c =
    let set = c.args.set in
    let counters = set.counters.now in
    let energies = set.energies.now in
    let entries = set.entries.now in
    let threshold = c.args.threshold in
    let l = c.loop-entry in
    let i = l.entry-index in
    let gated = c.history_gated-gated in (
      gated.ensures.2,
      omega (arith, gated.ensures.1),
      ap (λ (t : Totals). all_gated threshold t (all_show counters energies (drop (i + 1) entries)))
          (gated_on threshold (so_far l.count l.sum) (shows counters energies (get_or entries i past_the_last)) gated.result gated.ensures.0)
          ∙ sym (ap (all_gated threshold (so_far l.count l.sum)) (shows_next counters energies entries i (omega arith)))
          ∙ l.invariant.2,
    )

pub returns : goal.returns
unfolding all_gated
returns c =
    let set = c.args.set in
    let threshold = c.args.threshold in
    let l = c.loop-entry in
    sym (ap (all_gated threshold (so_far l.count l.sum)) (shows_end set.counters.now set.energies.now set.entries.now l.entry-index (omega arith)))
    ∙ l.invariant.2
    ∙ ap (all_gated threshold none) (sym (shown set))
