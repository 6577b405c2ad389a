-- The record of a histogram (01, 'Records'): "Kind 1: 1,000 u32 counters (length 4,002)"; and the third model's, kind 257
-- (02, CR 3): "the old body with each field high byte first". One statement over the model, and so over the byte order.
use Rattle.std.specs.Prelude.{ℕ, ◌+◌, not, List, [], ◌∷◌, ◌++◌}
use Rattle.base_refusals.specs.declared.Refusal.TheVariants.{STORE}
use Rattle.base_refusals.specs.Outcome.{Outcome, went, NoValues, done}
use Rattle.base_refusals.specs.Rows.{Row, row, by_rows}
use Rattle.bins.specs.Bin.{bins}
use Rattle.history_histogram.specs.Histogram.{is_histogram}
use Rattle.record_layout.specs.declared.Model.{Model}
use Rattle.record_layout.specs.declared.Model.TheVariants.{Ours, Third}
use Rattle.record_layout.specs.declared.Kind.TheVariants.{Histogram}
use Rattle.record_layout.specs.Layout.{length_width, histogram_length, entries_in, frame_rows}

-- the bytes of a whole record
abbrev pub record_length : ℕ
record_length = length_width + histogram_length

-- the counters in a record
unfoldable pub counters_in : Model → List ℕ → List ℕ
counters_in model bytes = entries_in (Histogram model) bins bytes

-- STORE: "not 1,000 counters"
abbrev pub store_rows : List ℕ → List Row
store_rows counters = row STORE (not (is_histogram counters)) ∷ []

-- "Read order: under 6 bytes LENGTH; KIND; length field unlike the bytes given, kind 1 unlike 4,002, LENGTH; STORE"; for kind 257 "as for kinds 1 and 2, in that order"
abbrev pub read_counters_rows : Model → List ℕ → List ℕ → List Row
read_counters_rows model bytes counters = frame_rows (Histogram model) bytes ++ store_rows counters

unfoldable pub read_counters : Model → List ℕ → List ℕ → Outcome (List ℕ) NoValues
read_counters model bytes counters = by_rows (read_counters_rows model bytes counters) (went (counters_in model bytes) done)

-- kind 1, and kind 257
abbrev pub read_histogram : List ℕ → List ℕ → Outcome (List ℕ) NoValues
read_histogram bytes counters = read_counters Ours bytes counters

abbrev pub read_third_histogram : List ℕ → List ℕ → Outcome (List ℕ) NoValues
read_third_histogram bytes counters = read_counters Third bytes counters
