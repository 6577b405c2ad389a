-- Demand 1 for the records, proved: each operation is stated by its rows. And the way back from what a report says. Assumes nothing.
use mathlib.Core.Path.{◌≡◌, refl}
use mathlib.Core.List.{List, ◌++◌}
use Prim.Native.Nat.{ℕ}
use lib.ListN.{length, drop}
use lib.Ieee.{Float}
use Rattle.std.specs.Prelude.{Result, Ok, Err}
use Rattle.base_refusals.specs.declared.Refusal.{Refusal}
use Rattle.base_refusals.specs.Answer.{said}
use Rattle.base_refusals.specs.Outcome.{done, Said, says, refusal}
use Rattle.base_refusals.proofs.Rows.{refused_by}
use Rattle.history_queue.specs.Queue.{held_of}
use Rattle.record_layout.specs.Layout.{known_of}
use Rattle.record_histogram.specs.Record.{counters_in, read_counters_rows, read_counters}
use Rattle.record_histogram.specs.Writing.{counters_record, write_counters_rows, write_counters}
use Rattle.record_queue_reader.specs.QueueRecord.{stored, queue_in, read_energies_rows, read_energies}
use Rattle.record_queue_writer.specs.Writing.{energies_record, write_energies_rows, write_energies}
use Rattle.record_conversion.specs.Conversion.{converted_record, convert_rows, converted, asked_record, asked_rows, converted_asked}
use Rattle.record_summary.specs.declared.Summary.{Summary}
use Rattle.record_summary.specs.declared.Summary.TheVariants.{Ranged, Rangeless}
use Rattle.record_summary.specs.Summary.{Figures, ranged, rangeless, summary_of, said as said_summary}
use Rattle.acceptance_outcomes.proofs.Fixed.{fixes, answer_back, answer_there}
use Rattle.acceptance_records.specs.Records.{RecordCalls}

-- ---- the way back from what a report says
summary_back : Said Figures → Result Summary Refusal
summary_back (says (ranged blocks low high range)) = Ok (Ranged blocks low high range)
summary_back (says (rangeless blocks)) = Ok (Rangeless blocks)
summary_back (refusal n) = answer_back (refusal n)

summary_there : (a : Result Summary Refusal) → summary_back (said_summary a) ≡ a
unfolding summary_back
summary_there (Ok (Ranged blocks low high range)) = refl
summary_there (Ok (Rangeless blocks)) = refl
summary_there (Err r) = answer_there (Err r)

pub record_calls : RecordCalls
unfolding read_counters write_counters read_energies write_energies converted converted_asked
record_calls = record {
  histogram_read = λ model bytes counters. refused_by (read_counters_rows model bytes counters) (counters_in model bytes) done;
  histogram_written =
      λ model counters out.
      let bytes = counters_record model counters in
      refused_by (write_counters_rows model counters out) (bytes ++ drop (length bytes) out) (length bytes);
  queue_read = λ model bytes store. refused_by (read_energies_rows model bytes store) (stored model bytes store) (queue_in model bytes);
  queue_written =
      λ model s out.
      let bytes = energies_record model s.queue.maximum (held_of s) in
      refused_by (write_energies_rows model s out) (bytes ++ drop (length bytes) out) (length bytes);
  conversion =
      λ kind bytes out.
      let record' = converted_record kind bytes in
      refused_by (convert_rows kind bytes out) (record' ++ drop (length record') out) (length record');
  conversion_asked =
      λ number bytes out.
      let record' = asked_record (known_of number) bytes in
      refused_by (asked_rows (known_of number) bytes out) (record' ++ drop (length record') out) (length record');
  fixed_histogram_read = λ model bytes counters. fixes (List ℕ) said answer_back answer_there counters (read_counters model bytes counters);
  fixed_histogram_written = λ model counters out. fixes (List ℕ) said answer_back answer_there out (write_counters model counters out);
  fixed_queue_read = λ model bytes store. fixes (List Float) said answer_back answer_there store (read_energies model bytes store);
  fixed_queue_written = λ model s out. fixes (List ℕ) said answer_back answer_there out (write_energies model s out);
  fixed_conversion = λ kind bytes out. fixes (List ℕ) said answer_back answer_there out (converted kind bytes out);
  fixed_conversion_asked = λ number bytes out. fixes (List ℕ) said answer_back answer_there out (converted_asked number bytes out);
  fixed_summary = λ bytes. fixes Unit said_summary summary_back summary_there tt (summary_of bytes);
}
