-- Demand 1 at the C interface, proved: a code other than 0 is the number that is said, so that what refuses the operation refuses the function. Assumes nothing.
use mathlib.Core.Path.{◌≡◌, refl, sym, ap}
use mathlib.Core.List.{List, ◌∷◌}
use Prim.Native.Nat.{ℕ}
use lib.ListN.{length}
use lib.Ieee.{Float}
use Rattle.base_refusals.specs.Outcome.{Outcome, Question, went, refused, Said, says, refusal, said_by, kept_by}
use Rattle.base_refusals.specs.Rows.{Row, RefusedBy}
use Rattle.base_refusals.proofs.Rows.{refused_by}
use Rattle.bins.specs.Reading.{reading_rows, reading_of}
use Rattle.history_histogram.specs.Histogram.{add_rows, add_to, reset_rows, cleared}
use Rattle.history_histogram.specs.Merge.{merge_rows, merge_into}
use Rattle.history_queue.specs.Adding.{queue_rows, enqueued}
use Rattle.history_set.specs.Set.{Histories, histories_of, shows}
use Rattle.gate.specs.Totals.{mean_of}
use Rattle.gate.specs.Sums.{totals_of}
use Rattle.gate.specs.Relative.{level_of, relative_rows, relative_of}
use Rattle.gate.specs.Gate.{left_of, gate_rows, gate_of}
use Rattle.gate.specs.GatedEnergy.{gated_energy_of}
use Rattle.range.specs.Range.{Span, work_after, span_over, range_rows, range_of}
use Rattle.record_histogram.specs.Record.{read_counters_rows, read_counters}
use Rattle.record_histogram.specs.Writing.{write_counters_rows, write_counters}
use Rattle.record_queue_reader.specs.QueueRecord.{read_energies_rows, read_energies}
use Rattle.record_queue_writer.specs.Writing.{write_energies_rows, write_energies}
use Rattle.record_layout.specs.Layout.{known_of}
use Rattle.record_conversion.specs.Conversion.{asked_rows, converted_asked}
use Rattle.filter_checks.specs.Calls.{frame_rows}
use Rattle.filter.specs.Process.{process_rows, processed}
use Rattle.filter.specs.Seed.{seed_rows, seeded}
use Rattle.interleaved_slices.specs.Shown.{Place, frames_in, sample_in}
use Rattle.base_refusals.specs.Codes.{code, value_or}
use Rattle.exports_entries.specs.Sets.{entry_at, set_of, uneven, asked, not_one, asked_alone}
use Rattle.exports_range.specs.Spans.{range_asked, span_code, low_or, high_or}
use Rattle.exports_interleaved.specs.Part.{place_code, sample_else}
use Rattle.acceptance_refusals.proofs.Table.{demand_1}
use Rattle.acceptance_records.proofs.Records.{record_calls}
use Rattle.acceptance_signals.proofs.Signals.{signal_calls}
use Rattle.acceptance_interface.specs.Interface.{Tells, Interface}

number_in : {Values : Type 0} → Said Values → ℕ
number_in (says values) = 0
number_in (refusal n) = n

module _ {Kept Values : Type 0} where
  said_of_code : (call : Outcome Kept Values) (n : ℕ) → (n ≡ 0 → ⊥) → code call ≡ n → said_by call ≡ refusal n
  said_of_code (went kept values) n p e = absurd (p (sym e))
  said_of_code (refused r) n p e = ap refusal e

  said_code : (call : Outcome Kept Values) (n : ℕ) → (n ≡ 0 → ⊥) → said_by call ≡ refusal n → code call ≡ n
  unfolding number_in
  said_code (went kept values) n p e = absurd (p (sym (ap number_in e)))
  said_code (refused r) n p e = ap number_in e

  nothing_changed : (call : Outcome Kept Values) → (code call ≡ 0 → ⊥) → (old : Values) (given : Kept) → (value_or old call ≡ old) × (kept_by given call ≡ given)
  nothing_changed (went kept values) p old given = absurd (p refl)
  nothing_changed (refused r) p old given = (refl, refl)

  pub tells : (rows : List Row) (call : Outcome Kept Values) → RefusedBy rows call → Tells rows call
  tells rows call by = record {
    exactly = λ n p. (λ e. (by.exactly n).0 (said_of_code call n p e), λ f. said_code call n p ((by.exactly n).1 f));
    as_given = nothing_changed call;
  }

refused_span : {Kept : Type 0} (call : Outcome Kept Span) → (code call ≡ 0 → ⊥) → (span_code call ≡ code call) × ((old : Float) → (low_or old call ≡ old) × (high_or old call ≡ old))
refused_span (went kept span) p = absurd (p refl)
refused_span (refused r) p = (refl, λ old. (refl, refl))

-- ---- questions over a set that is given by its numbers
module _ (numbers counters : List ℕ) (energies : List Float) where
  abbrev set : Histories
  set = set_of numbers counters energies

  gates : Tells (uneven numbers ∷ gate_rows set) (asked gate_of numbers counters energies)
  unfolding gate_of
  gates = tells (uneven numbers ∷ gate_rows set) (asked gate_of numbers counters energies) (refused_by (uneven numbers ∷ gate_rows set) tt (left_of (histories_of set)))

  means : Tells (uneven numbers ∷ gate_rows set) (asked gated_energy_of numbers counters energies)
  unfolding gated_energy_of
  means =
      tells (uneven numbers ∷ gate_rows set) (asked gated_energy_of numbers counters energies)
      (refused_by (uneven numbers ∷ gate_rows set) tt (mean_of (left_of (histories_of set))))

  relates : Tells (not_one numbers ∷ relative_rows (entry_at numbers 0) counters energies) (asked_alone relative_of numbers counters energies)
  unfolding relative_of
  relates =
      let rows = not_one numbers ∷ relative_rows (entry_at numbers 0) counters energies in
      tells rows (asked_alone relative_of numbers counters energies) (refused_by rows tt (level_of (totals_of (shows counters energies (entry_at numbers 0)))))

  ranges : (work : List Float) → Tells (uneven numbers ∷ range_rows set work) (range_asked numbers counters energies work)
  unfolding range_of
  ranges work =
      let rows = uneven numbers ∷ range_rows set work in
      tells rows (range_asked numbers counters energies work) (refused_by rows (work_after work (histories_of set)) (span_over (histories_of set)))

refused_place : (call : Question Place) → (code call ≡ 0 → ⊥) → (place_code call ≡ code call) × ((old : Float) → sample_else old call ≡ old)
refused_place (went kept place) p = absurd (p refl)
refused_place (refused r) p = (refl, λ old. refl)

pub interface : Interface
interface = record {
  reading = λ x. tells (reading_rows x) (reading_of x) (demand_1.reading x);
  histogram_add = λ counters x. tells (add_rows counters x) (add_to counters x) (demand_1.histogram_add counters x);
  histogram_merge = λ into from. tells (merge_rows into from) (merge_into into from) (demand_1.histogram_merge into from);
  histogram_reset = λ counters. tells (reset_rows counters) (cleared counters) (demand_1.histogram_reset counters);
  queue_add = λ s x. tells (queue_rows s) (enqueued s x) (demand_1.queue_add s x);
  gate = gates;
  gated_energy = means;
  relative_threshold = relates;
  loudness_range = ranges;
  spans = λ numbers counters energies work. refused_span (range_asked numbers counters energies work);
  histogram_read = λ model bytes counters. tells (read_counters_rows model bytes counters) (read_counters model bytes counters) (record_calls.histogram_read model bytes counters);
  histogram_write = λ model counters out. tells (write_counters_rows model counters out) (write_counters model counters out) (record_calls.histogram_written model counters out);
  queue_read = λ model bytes store. tells (read_energies_rows model bytes store) (read_energies model bytes store) (record_calls.queue_read model bytes store);
  queue_write = λ model s out. tells (write_energies_rows model s out) (write_energies model s out) (record_calls.queue_written model s out);
  record_convert = λ kind bytes out. tells (asked_rows (known_of kind) bytes out) (converted_asked kind bytes out) (record_calls.conversion_asked kind bytes out);
  process = λ call. tells (process_rows call) (processed call) (signal_calls.process call);
  seed = λ call. tells (seed_rows call) (seeded call) (signal_calls.seed call);
  frames = λ channels samples. tells (frame_rows channels samples) (frames_in channels samples) (signal_calls.frames channels samples);
  sample =
      λ channels samples channel frame.
      tells (frame_rows channels (length samples)) (sample_in channels samples channel frame) (signal_calls.sample channels samples channel frame);
  places = refused_place;
}
