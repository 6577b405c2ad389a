-- Conversion (02, CR 3): "a conversion each way that keeps every count and energy". Kinds 1 and 257 are converted to each other, and kinds 2 and 258.
use Rattle.std.specs.Prelude.{ℕ, true, Option, None, Some, List, [], ◌∷◌, ◌++◌, ltb, length}
use Rattle.base_refusals.specs.declared.Refusal.TheVariants.{LENGTH, KIND}
use Rattle.base_refusals.specs.Outcome.{Outcome}
use Rattle.base_refusals.specs.Rows.{Row, row, by_rows}
use Rattle.record_layout.specs.declared.Model.{Model}
use Rattle.record_layout.specs.declared.Model.TheVariants.{Ours, Third}
use Rattle.record_layout.specs.declared.Kind.{Kind}
use Rattle.record_layout.specs.declared.Kind.TheVariants.{Histogram, Queue}
use Rattle.record_layout.specs.Layout.{of_model, head_width, frame_rows, room_row, written_to, known_of}
use Rattle.record_histogram.specs.Record.{counters_in}
use Rattle.record_histogram.specs.Writing.{counters_record}
use Rattle.record_queue_reader.specs.QueueRecord.{maximum_in, patterns_in, energies_of, check_rows}
use Rattle.record_queue_writer.specs.Writing.{energies_record}

-- the kind that a record is converted to: the other model's of the same
abbrev pub other_model : Model → Model
other_model model = of_model model Third Ours

abbrev pub turned : Kind → Kind
turned (Histogram model) = Histogram (other_model model)
turned (Queue model) = Queue (other_model model)

-- the record of that kind with the same counters, or with the same maximum and energies
unfoldable pub converted_record : Kind → List ℕ → List ℕ
converted_record (Histogram model) bytes = counters_record (other_model model) (counters_in model bytes)
converted_record (Queue model) bytes = energies_record (other_model model) (maximum_in model bytes) (energies_of (patterns_in model bytes))

-- what its reader refuses, but for STORE: a conversion has none
abbrev pub record_rows : Kind → List ℕ → List Row
record_rows (Histogram model) bytes = frame_rows (Histogram model) bytes
record_rows (Queue model) bytes = check_rows model bytes

-- and then ROOM
abbrev pub convert_rows : Kind → List ℕ → List ℕ → List Row
convert_rows kind bytes out = record_rows kind bytes ++ room_row out (converted_record kind bytes) ∷ []

unfoldable pub converted : Kind → List ℕ → List ℕ → Outcome (List ℕ) ℕ
converted kind bytes out = by_rows (convert_rows kind bytes out) (written_to out (converted_record kind bytes))

-- ---- a kind asked for by its number
-- "KIND now knows four": no record is of another
abbrev pub asked_rows : Option Kind → List ℕ → List ℕ → List Row
asked_rows (Some kind) bytes out = convert_rows kind bytes out
asked_rows None bytes out = row LENGTH (ltb (length bytes) head_width) ∷ row KIND true ∷ []

abbrev pub asked_record : Option Kind → List ℕ → List ℕ
asked_record (Some kind) bytes = converted_record kind bytes
asked_record None bytes = []

unfoldable pub converted_asked : ℕ → List ℕ → List ℕ → Outcome (List ℕ) ℕ
converted_asked number bytes out = by_rows (asked_rows (known_of number) bytes out) (written_to out (asked_record (known_of number) bytes))
