use Rattle.std.proofs.Common.{◌≡◌, ◌+◌, ◌≤◌, ℕ, List, Float, drop}
use Rattle.history_set.specs.Set.{all_show}
use Rattle.range.specs.Range.{queues_in}
use Rattle.range.proofs.queues_in.Given as goal

abbrev pub invariant-loop-entry : goal.invariant-loop-entry
invariant-loop-entry l = record {
  few : l.queues ≤ l.entry-index;
  all : (counters : List ℕ) (energies : List Float)
      → l.queues + queues_in (all_show counters energies (drop l.entry-index l.entries)) ≡ queues_in (all_show counters energies l.entries);
}
