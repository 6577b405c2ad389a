-- Demand 1 (01, 'Numbers of the refusals'): "Given exactly when", "Checks run in table order", "A refusal answers its number only. Lent memory and states passed
-- by value come back as given." Of each operation: its rows stand in 01's order where the operation is defined, and `RefusedBy` says the rest.
-- proofs/Table.antt proves `Demand1`. Weighting, sample peak, true peak and the records stand in other crates.
use Rattle.std.specs.Prelude.{ℕ, List, Float}
use Rattle.base_refusals.specs.Rows.{RefusedBy}
use Rattle.bins.specs.Reading.{reading_rows, reading_of}
use Rattle.history_histogram.specs.Histogram.{add_rows, add_to, reset_rows, cleared}
use Rattle.history_histogram.specs.Merge.{merge_rows, merge_into}
use Rattle.history_queue.specs.Queue.{Stored}
use Rattle.history_queue.specs.Adding.{queue_rows, enqueued}
use Rattle.history_set.specs.declared.set.Entry.{Entry}
use Rattle.history_set.specs.Set.{Histories}
use Rattle.gate.specs.Relative.{relative_rows, relative_of}
use Rattle.gate.specs.Gate.{gate_rows, gate_of}
use Rattle.gate.specs.GatedEnergy.{gated_energy_of}
use Rattle.range.specs.Range.{range_rows, range_of}

pub record Demand1 : Type 0 where
  pub reading : (energy : Float) → RefusedBy (reading_rows energy) (reading_of energy)
  pub histogram_add : (counters : List ℕ) (energy : Float) → RefusedBy (add_rows counters energy) (add_to counters energy)
  pub histogram_merge : (into from : List ℕ) → RefusedBy (merge_rows into from) (merge_into into from)
  pub histogram_reset : (counters : List ℕ) → RefusedBy (reset_rows counters) (cleared counters)
  pub queue_add : (s : Stored) (energy : Float) → RefusedBy (queue_rows s) (enqueued s energy)
  pub gate : (h : Histories) → RefusedBy (gate_rows h) (gate_of h)
  pub gated_energy : (h : Histories) → RefusedBy (gate_rows h) (gated_energy_of h)
  pub relative_threshold : (entry : Entry) (counters : List ℕ) (energies : List Float)
      → RefusedBy (relative_rows entry counters energies) (relative_of entry counters energies)
  pub loudness_range : (h : Histories) (work : List Float) → RefusedBy (range_rows h work) (range_of h work)
