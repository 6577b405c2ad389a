-- `gate::history_gated` meets its contract, shape by shape: the entry is inside its slice, and its store is sound. Assumes nothing.
use Rattle.std.proofs.Common.{◌≤◌, length, drop, sym, ap, ◌∙◌, subst}
use Rattle.history_set.specs.declared.set.Shape.{Shape}
use Rattle.history_set.specs.Set.{counters_end, store_end, counters_at, shape_shows}
use Rattle.history_set.proofs.Entries.{counters_inside_lem, store_inside, sound_queue}
use Rattle.gate.specs.declared.blocks.Totals.{Totals}
use Rattle.gate.specs.Totals.{on_top_of, bins_from}
use Rattle.gate.specs.Inner.{Steady}
use Rattle.gate.proofs.Nothing.{bins_steady}
use Rattle.gate.proofs.Running.{there}
use Rattle.gate.proofs.Keeping.{queue_keeps}
use Rattle.gate.specs.Gate.{gated_of}
use Rattle.gate.proofs.history_gated.Goals as goal

pub returns-in-Histogram : goal.returns-in-Histogram
returns-in-Histogram c =
    let a = c.args in
    let counters = a.set.counters.now in
    let start = c.in-Histogram.start in
    let is = c.in-Histogram.is in
    let gated = c.from_bin in
    let within = subst (λ (s : Shape). counters_end s ≤ length counters) is (counters_inside_lem (length counters) (length a.set.energies.now) a.entry c.requires.0) in
    let on = gated.ensures.0 ∙ there a.sum counters start a.bin within in (
      on
          ∙ ap (λ n. bins_from (on_top_of a.sum) n (drop n (counters_at counters start))) c.requires.2
          ∙ ap (λ (s : Shape). gated_of a.threshold (on_top_of a.sum) (shape_shows counters a.set.energies.now s)) (sym is),
      gated.ensures.1,
      subst (λ (t : Totals). Steady t.sum) (sym on) (bins_steady (on_top_of a.sum) a.bin (drop a.bin (counters_at counters start)) c.requires.3),
    )

pub returns-in-Queue : goal.returns-in-Queue
returns-in-Queue c =
    let a = c.args in
    let energies = a.set.energies.now in
    let is = c.in-Queue.is in
    let start = c.in-Queue.start in
    let queue = c.in-Queue.queue in
    let stores = sound_queue energies a.entry start queue is c.requires.1 in
    let within = subst (λ (s : Shape). store_end s ≤ length energies) is (store_inside (length a.set.counters.now) (length energies) a.entry c.requires.0) in
    let kept = queue_keeps a.threshold a.sum energies start queue within stores.0 stores.1 c.requires.3 c.of_queue.result c.of_queue.ensures in
    (kept.0 ∙ ap (λ (s : Shape). gated_of a.threshold (on_top_of a.sum) (shape_shows a.set.counters.now energies s)) (sym is), kept.1, kept.2)
