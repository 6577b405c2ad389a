-- Demand 1, proved: "Given exactly when". Each operation is defined by its rows, so that `refused_by` is all there is to say. Assumes nothing.
use Rattle.base_refusals.specs.Outcome.{done}
use Rattle.base_refusals.proofs.Rows.{refused_by}
use Rattle.bins.specs.Reading.{reading_rows, reading_of, tenths_of}
use Rattle.bins.specs.Energy.{received}
use Rattle.history_histogram.specs.Histogram.{one_more, empty, sums, add_rows, add_to, reset_rows, cleared}
use Rattle.history_histogram.specs.Merge.{merge_rows, merge_into}
use Rattle.history_queue.specs.Adding.{queue_rows, with_energy, enqueued}
use Rattle.history_set.specs.Set.{histories_of, shows}
use Rattle.gate.specs.Totals.{mean_of}
use Rattle.gate.specs.Sums.{totals_of}
use Rattle.gate.specs.Relative.{level_of, relative_rows, relative_of}
use Rattle.gate.specs.Gate.{left_of, gate_rows, gate_of}
use Rattle.gate.specs.GatedEnergy.{gated_energy_of}
use Rattle.range.specs.Range.{work_after, span_over, range_rows, range_of}
use Rattle.acceptance_refusals.specs.Table.{Demand1}

pub demand_1 : Demand1
demand_1 = record {
  reading = λ x. unfold reading_of in refused_by (reading_rows x) tt (tenths_of x);
  histogram_add = λ counters x. unfold add_to in refused_by (add_rows counters x) (received counters x (one_more counters x)) done;
  histogram_merge = λ into from. unfold merge_into in refused_by (merge_rows into from) (sums into from) done;
  histogram_reset = λ counters. unfold cleared in refused_by (reset_rows counters) empty done;
  queue_add = λ s x. unfold enqueued in refused_by (queue_rows s) (received s x (with_energy s x)) done;
  gate = λ h. unfold gate_of in refused_by (gate_rows h) tt (left_of (histories_of h));
  gated_energy = λ h. unfold gated_energy_of in refused_by (gate_rows h) tt (mean_of (left_of (histories_of h)));
  relative_threshold =
      λ entry counters energies.
      unfold relative_of in refused_by (relative_rows entry counters energies) tt (level_of (totals_of (shows counters energies entry)));
  loudness_range = λ h work. unfold range_of in refused_by (range_rows h work) (work_after work (histories_of h)) (span_over (histories_of h));
}
