-- `sums::of_history` meets its contract, shape by shape: the entry is inside its slice. Assumes nothing.
use Rattle.std.proofs.lemmas.Option.{MatchOption-at_some}
use Rattle.std.proofs.Common.{◌≡◌, ◌+◌, ◌≤◌, true, length, sym, ap, ◌∙◌, subst}
use Rattle.history_set.specs.declared.set.Shape.{Shape}
use Rattle.history_set.specs.declared.set.Shape.TheVariants.{Queue as Queue-at}
use Rattle.history_queue.specs.Queue.{held_of}
use Rattle.history_set.specs.Set.{queue_at, counters_end, shape_shows, shape_sound}
use Rattle.history_set.proofs.Entries.{counters_inside_lem}
use Rattle.gate.specs.Totals.{none}
use Rattle.gate.specs.Inner.{sum_onto}
use Rattle.gate.proofs.Running.{there}
use Rattle.gate.proofs.Nothing.{nothing_steady}
use Rattle.gate.specs.Sums.{totals_of}
use Rattle.gate.proofs.Looking.{queue_totals}
use Rattle.gate.proofs.sums.of_history.Goals as goal

pub from_bin-requires : goal.from_bin-requires
from_bin-requires c = nothing_steady

pub returns-in-Histogram : goal.returns-in-Histogram
returns-in-Histogram c =
    let a = c.args in
    let counters = a.set.counters.now in
    let energies = a.set.energies.now in
    let start = c.in-Histogram.start in
    let is = c.in-Histogram.is in
    let within : start + 1000 ≤ length counters =
    subst (λ (s : Shape). counters_end s ≤ length counters) is (counters_inside_lem (length counters) (length energies) a.entry c.requires) in (
      ap (shape_sound energies) is,
      c.from_bin.ensures.0 ∙ there none.sum counters start 0 within ∙ ap (λ (s : Shape). totals_of (shape_shows counters energies s)) (sym is),
      c.from_bin.ensures.1,
    )

pub returns-in_ok-sum-in-Queue : goal.returns-in_ok-sum-in-Queue
returns-in_ok-sum-in-Queue c =
    let counters = c.args.set.counters.now in
    let energies = c.args.set.energies.now in
    let start = c.in-Queue.start in
    let queue = c.in-Queue.queue in
    let is = c.in-Queue.is in
    let sum = c.in_ok-sum-in-Queue.sum in
    let seen : (shape_sound energies (Queue-at start queue) ≡ true) × (sum ≡ sum_onto none.sum (held_of (queue_at energies start queue)))
    = MatchOption-at_some _ _ sum c.in_ok-sum-in-Queue.ensures.ok_part c.queue_sum.ensures in
    let t = queue_totals energies start queue sum seen.0 seen.1 in
    (ap (shape_sound energies) is ∙ seen.0, t.0 ∙ ap (λ (s : Shape). totals_of (shape_shows counters energies s)) (sym is), t.1)
