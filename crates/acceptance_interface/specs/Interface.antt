-- Demand 1 at the C interface: a function's result is 0, or n exactly when row n of its operation holds and no earlier one does; and then every value behind a pointer,
-- and all that was lent, is as given. A contract of the `exports_` crates says that the result is `code` of an outcome (a range's `span_code`, a sample's `place_code`); here
-- these outcomes stand with their rows. proofs/Interface.antt proves `Interface`.
use Rattle.std.specs.Prelude.{ℕ, ◌≡◌, List, ◌∷◌, length, Float}
use Rattle.base_refusals.specs.Outcome.{Outcome, Question, kept_by}
use Rattle.base_refusals.specs.Rows.{Row, FirstIs}
use Rattle.bins.specs.Reading.{reading_rows, reading_of}
use Rattle.history_histogram.specs.Histogram.{add_rows, add_to, reset_rows, cleared}
use Rattle.history_histogram.specs.Merge.{merge_rows, merge_into}
use Rattle.history_queue.specs.Queue.{Stored}
use Rattle.history_queue.specs.Adding.{queue_rows, enqueued}
use Rattle.gate.specs.Relative.{relative_rows, relative_of}
use Rattle.gate.specs.Gate.{gate_rows, gate_of}
use Rattle.gate.specs.GatedEnergy.{gated_energy_of}
use Rattle.range.specs.Range.{range_rows}
use Rattle.record_layout.specs.declared.Model.{Model}
use Rattle.record_histogram.specs.Record.{read_counters_rows, read_counters}
use Rattle.record_histogram.specs.Writing.{write_counters_rows, write_counters}
use Rattle.record_queue_reader.specs.QueueRecord.{read_energies_rows, read_energies}
use Rattle.record_queue_writer.specs.Writing.{write_energies_rows, write_energies}
use Rattle.record_layout.specs.Layout.{known_of}
use Rattle.record_conversion.specs.Conversion.{asked_rows, converted_asked}
use Rattle.filter_checks.specs.Calls.{frame_rows}
use Rattle.filter.specs.Call.{Call}
use Rattle.filter.specs.Process.{process_rows, processed}
use Rattle.filter.specs.Seed.{seed_rows, seeded}
use Rattle.interleaved_slices.specs.Shown.{Place, frames_in, sample_in}
use Rattle.base_refusals.specs.Codes.{code, value_or}
use Rattle.exports_entries.specs.Sets.{entry_at, set_of, uneven, asked, not_one, asked_alone}
use Rattle.exports_range.specs.Spans.{range_asked, span_code, low_or, high_or}
use Rattle.exports_interleaved.specs.Part.{place_code, sample_else}

pub record Tells {Kept Values : Type 0} (rows : List Row) (call : Outcome Kept Values) : Type 0 where
  -- the result is n, other than 0, exactly when row n holds and no earlier row does
  pub exactly : (n : ℕ) → (n ≡ 0 → ⊥) → (code call ≡ n → FirstIs n rows) × (FirstIs n rows → code call ≡ n)
  -- and then nothing has changed
  pub as_given : (code call ≡ 0 → ⊥) → (old : Values) (given : Kept) → (value_or old call ≡ old) × (kept_by given call ≡ given)

pub record Interface : Type 0 where
  pub reading : (energy : Float) → Tells (reading_rows energy) (reading_of energy)
  pub histogram_add : (counters : List ℕ) (energy : Float) → Tells (add_rows counters energy) (add_to counters energy)
  pub histogram_merge : (into from : List ℕ) → Tells (merge_rows into from) (merge_into into from)
  pub histogram_reset : (counters : List ℕ) → Tells (reset_rows counters) (cleared counters)
  pub queue_add : (s : Stored) (energy : Float) → Tells (queue_rows s) (enqueued s energy)
  -- a set is given by five numbers an entry: SET where they are not whole entries, and then what refuses the operation
  pub gate : (numbers counters : List ℕ) (energies : List Float) → Tells (uneven numbers ∷ gate_rows (set_of numbers counters energies)) (asked gate_of numbers counters energies)
  pub gated_energy : (numbers counters : List ℕ) (energies : List Float)
      → Tells (uneven numbers ∷ gate_rows (set_of numbers counters energies)) (asked gated_energy_of numbers counters energies)
  pub relative_threshold : (numbers counters : List ℕ) (energies : List Float)
      → Tells (not_one numbers ∷ relative_rows (entry_at numbers 0) counters energies) (asked_alone relative_of numbers counters energies)
  pub loudness_range : (numbers counters : List ℕ) (energies work : List Float)
      → Tells (uneven numbers ∷ range_rows (set_of numbers counters energies) work) (range_asked numbers counters energies work)
  -- a range's result is that, or 128 for nothing and 129 for not a number, and then too its two energies are as given
  pub spans : (numbers counters : List ℕ) (energies work : List Float) →
      let call = range_asked numbers counters energies work in
      (code call ≡ 0 → ⊥) → (span_code call ≡ code call) × ((old : Float) → (low_or old call ≡ old) × (high_or old call ≡ old))
  -- the records, of either model
  pub histogram_read : (model : Model) (bytes counters : List ℕ) → Tells (read_counters_rows model bytes counters) (read_counters model bytes counters)
  pub histogram_write : (model : Model) (counters out : List ℕ) → Tells (write_counters_rows model counters out) (write_counters model counters out)
  pub queue_read : (model : Model) (bytes : List ℕ) (store : List Float) → Tells (read_energies_rows model bytes store) (read_energies model bytes store)
  pub queue_write : (model : Model) (s : Stored) (out : List ℕ) → Tells (write_energies_rows model s out) (write_energies model s out)
  pub record_convert : (kind : ℕ) (bytes out : List ℕ) → Tells (asked_rows (known_of kind) bytes out) (converted_asked kind bytes out)
  -- the filter's calls, of either kind of samples
  pub process : (call : Call) → Tells (process_rows call) (processed call)
  pub seed : (call : Call) → Tells (seed_rows call) (seeded call)
  -- frames and samples of a part of interleaved samples; past the end a sample's result is 130, which is no refusal, and its value as given
  pub frames : (channels samples : ℕ) → Tells (frame_rows channels samples) (frames_in channels samples)
  pub sample : (channels : ℕ) (samples : List Float) (channel frame : ℕ) → Tells (frame_rows channels (length samples)) (sample_in channels samples channel frame)
  pub places : (call : Question Place) → (code call ≡ 0 → ⊥) → (place_code call ≡ code call) × ((old : Float) → sample_else old call ≡ old)
