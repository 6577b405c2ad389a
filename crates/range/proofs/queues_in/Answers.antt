-- `range::queues_in` meets its contract. The invariant: those that were counted, with those among the entries that are left, are all. Assumes nothing.
use Rattle.std.proofs.Common.{ℕ, List, Float, ap, arith}
use Rattle.history_set.specs.declared.set.Shape.{Shape}
use Rattle.history_set.specs.Set.{shape_shows}
use Rattle.range.specs.Range.{queues_by}
use Rattle.range.proofs.Answers.{queues_next, queues_end}
use Rattle.range.proofs.queues_in.Goals as goal
use Rattle.range.proofs.queues_in.Goals.{in-Queue, in_default}

pub loop-entry-preserved : goal.loop-entry-preserved
loop-entry-preserved c =
    let next = λ (counters : List ℕ) (energies : List Float). queues_next counters energies c.args.entries.now c.loop-entry.entry-index (omega arith) in
    let by = λ (counters : List ℕ) (energies : List Float) (s : Shape). queues_by (shape_shows counters energies s) in
    elim c.match-entry.branch [
      | in-Queue w ↦ record {
        few = omega arith;
        all = λ counters energies. omega (arith, c.loop-entry.invariant.all counters energies, next counters energies, ap (by counters energies) w.in-Queue.is);
      }
      | in_default w ↦ record {
        few = omega arith;
        all = λ counters energies. omega (arith, c.loop-entry.invariant.all counters energies, next counters energies, ap (by counters energies) w.in_default.is);
      }
    ]

pub returns : goal.returns
returns c =
    λ (counters : List ℕ) (energies : List Float).
    omega (arith, c.loop-entry.invariant.all counters energies, queues_end counters energies c.args.entries.now c.loop-entry.entry-index (omega arith))
