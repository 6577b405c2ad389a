-- Demand 1 for the records (01, 'Records'): "Read order: under 6 bytes LENGTH; KIND; length field unlike the bytes given, kind 1 unlike 4,002, kind 2 under 10, LENGTH;
-- maximum or held CONTENT; length unlike 10 + 8·held LENGTH; energies CONTENT; STORE." A writer: STORE, then ROOM. 02, CR 3: "as for kinds 1 and 2, in that order"; a conversion as its reader without STORE, then ROOM.
-- And their statements fix their outcomes. Each is over the model, and so over the byte order.
-- The rows stand where each operation is defined. proofs/Records.antt proves `RecordCalls`.
use Rattle.std.specs.Prelude.{ℕ, List, Float}
use Rattle.base_refusals.specs.Answer.{said}
use Rattle.base_refusals.specs.Rows.{RefusedBy}
use Rattle.history_queue.specs.Queue.{Stored}
use Rattle.record_layout.specs.declared.Model.{Model}
use Rattle.record_layout.specs.declared.Kind.{Kind}
use Rattle.record_layout.specs.Layout.{known_of}
use Rattle.record_histogram.specs.Record.{read_counters_rows, read_counters}
use Rattle.record_histogram.specs.Writing.{write_counters_rows, write_counters}
use Rattle.record_queue_reader.specs.QueueRecord.{read_energies_rows, read_energies}
use Rattle.record_queue_writer.specs.Writing.{write_energies_rows, write_energies}
use Rattle.record_conversion.specs.Conversion.{convert_rows, converted, asked_rows, converted_asked}
use Rattle.record_summary.specs.Summary.{summary_of, said as said_summary}
use Rattle.acceptance_outcomes.specs.Fixed.{Fixed}

pub record RecordCalls : Type 0 where
  pub histogram_read : (model : Model) (bytes counters : List ℕ) → RefusedBy (read_counters_rows model bytes counters) (read_counters model bytes counters)
  pub histogram_written : (model : Model) (counters out : List ℕ) → RefusedBy (write_counters_rows model counters out) (write_counters model counters out)
  pub queue_read : (model : Model) (bytes : List ℕ) (store : List Float) → RefusedBy (read_energies_rows model bytes store) (read_energies model bytes store)
  pub queue_written : (model : Model) (s : Stored) (out : List ℕ) → RefusedBy (write_energies_rows model s out) (write_energies model s out)
  -- a conversion, of a kind and of a kind asked for by its number
  pub conversion : (kind : Kind) (bytes out : List ℕ) → RefusedBy (convert_rows kind bytes out) (converted kind bytes out)
  pub conversion_asked : (number : ℕ) (bytes out : List ℕ) → RefusedBy (asked_rows (known_of number) bytes out) (converted_asked number bytes out)
  -- the counters or the energies read into, and the bytes written into
  pub fixed_histogram_read : (model : Model) (bytes counters : List ℕ) → Fixed said counters (read_counters model bytes counters)
  pub fixed_histogram_written : (model : Model) (counters out : List ℕ) → Fixed said out (write_counters model counters out)
  pub fixed_queue_read : (model : Model) (bytes : List ℕ) (store : List Float) → Fixed said store (read_energies model bytes store)
  pub fixed_queue_written : (model : Model) (s : Stored) (out : List ℕ) → Fixed said out (write_energies model s out)
  pub fixed_conversion : (kind : Kind) (bytes out : List ℕ) → Fixed said out (converted kind bytes out)
  pub fixed_conversion_asked : (number : ℕ) (bytes out : List ℕ) → Fixed said out (converted_asked number bytes out)
  -- the report keeps nothing
  pub fixed_summary : (bytes : List ℕ) → Fixed said_summary tt (summary_of bytes)
