-- Writing a queue's record (01, 'Records'): the same fields as in reading, oldest energy first.
use Rattle.std.specs.Prelude.{ℕ, not, ◌&&◌, List, [], ◌∷◌, ◌++◌, length, Float}
use Rattle.base_refusals.specs.declared.Refusal.TheVariants.{STORE}
use Rattle.base_refusals.specs.Outcome.{Outcome}
use Rattle.base_refusals.specs.Rows.{Row, row, by_rows}
use Rattle.base_fields.specs.Field.{bytes_of}
use Rattle.history_queue.specs.Queue.{Stored, suits, held_of}
use Rattle.history_set.specs.Set.{none_below}
use Rattle.record_layout.specs.declared.Model.{Model}
use Rattle.record_layout.specs.declared.Model.TheVariants.{Ours, Third}
use Rattle.record_layout.specs.declared.Kind.TheVariants.{Queue as QueueKind}
use Rattle.record_layout.specs.Layout.{number_width, order_of, entry_bytes, record_of, room_row, written_to}
use Rattle.record_queue_reader.specs.QueueRecord.{patterns_of}

-- the body of a queue that holds these energies
abbrev pub body_of : Model → ℕ → List Float → List ℕ
body_of model maximum energies =
    bytes_of (order_of (QueueKind model)) number_width maximum ++ bytes_of (order_of (QueueKind model)) number_width (length energies)
    ++ entry_bytes (QueueKind model) (patterns_of energies)

unfoldable pub energies_record : Model → ℕ → List Float → List ℕ
energies_record model maximum energies = record_of (QueueKind model) (body_of model maximum energies)

-- STORE, "in a question or writer, a held energy below boundary 0" too; then ROOM
abbrev pub write_energies_rows : Model → Stored → List ℕ → List Row
write_energies_rows model s out =
    row STORE (not (suits s.queue (length s.store) && none_below (held_of s)))
    ∷ room_row out (energies_record model s.queue.maximum (held_of s))
    ∷ []

unfoldable pub write_energies : Model → Stored → List ℕ → Outcome (List ℕ) ℕ
write_energies model s out = by_rows (write_energies_rows model s out) (written_to out (energies_record model s.queue.maximum (held_of s)))

-- kind 2, and kind 258
abbrev pub write_queue : Stored → List ℕ → Outcome (List ℕ) ℕ
write_queue s out = write_energies Ours s out

abbrev pub write_third_queue : Stored → List ℕ → Outcome (List ℕ) ℕ
write_third_queue s out = write_energies Third s out
