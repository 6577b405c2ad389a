-- Writing a histogram's record (01, 'Records'): the same counters as in reading, bin 0 first.
use Rattle.std.specs.Prelude.{ℕ, not, List, [], ◌∷◌}
use Rattle.base_refusals.specs.declared.Refusal.TheVariants.{STORE}
use Rattle.base_refusals.specs.Outcome.{Outcome}
use Rattle.base_refusals.specs.Rows.{Row, row, by_rows}
use Rattle.history_histogram.specs.Histogram.{is_histogram}
use Rattle.record_layout.specs.declared.Model.{Model}
use Rattle.record_layout.specs.declared.Model.TheVariants.{Ours, Third}
use Rattle.record_layout.specs.declared.Kind.TheVariants.{Histogram}
use Rattle.record_layout.specs.Layout.{entry_bytes, record_of, room_row, written_to}

-- the record of counters
unfoldable pub counters_record : Model → List ℕ → List ℕ
counters_record model counters = record_of (Histogram model) (entry_bytes (Histogram model) counters)

-- STORE, then ROOM
abbrev pub write_counters_rows : Model → List ℕ → List ℕ → List Row
write_counters_rows model counters out = row STORE (not (is_histogram counters)) ∷ room_row out (counters_record model counters) ∷ []

unfoldable pub write_counters : Model → List ℕ → List ℕ → Outcome (List ℕ) ℕ
write_counters model counters out = by_rows (write_counters_rows model counters out) (written_to out (counters_record model counters))

-- kind 1, and kind 257
abbrev pub histogram_record : List ℕ → List ℕ
histogram_record counters = counters_record Ours counters

abbrev pub write_histogram : List ℕ → List ℕ → Outcome (List ℕ) ℕ
write_histogram counters out = write_counters Ours counters out

abbrev pub write_third_histogram : List ℕ → List ℕ → Outcome (List ℕ) ℕ
write_third_histogram counters out = write_counters Third counters out
