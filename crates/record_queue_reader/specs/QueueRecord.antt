-- The record of a queue (01, 'Records'): "Kind 2: u32 maximum 1..36,000, u32 held, then that many u64 float patterns, oldest first; none below boundary 0;
-- NaN only as 7FF8000000000000 hex, so written." And the third model's, kind 258 (02, CR 3): "the old body with each field high byte first". One statement
-- over the model, and so over the byte order.
use Rattle.std.specs.Prelude.{ℕ, ◌+◌, ◌*◌, Bool, true, not, ◌&&◌, ◌||◌, List, [], ◌∷◌, ◌++◌, map, eqb, leb, length, drop, Float}
use Rattle.std.specs.Float.{binary64}
use Rattle.std.specs.Float.Ieee.{of_bits, to_bits, is_nan}
use Rattle.base_refusals.specs.declared.Refusal.TheVariants.{STORE, LENGTH, CONTENT}
use Rattle.base_refusals.specs.Outcome.{Outcome, went, Question, answers}
use Rattle.base_refusals.specs.Rows.{Row, row, by_rows}
use Rattle.history_queue.specs.declared.Queue.{Queue}
use Rattle.bins.specs.Energy.{dropped}
use Rattle.history_queue.specs.Queue.{longest}
use Rattle.record_layout.specs.declared.Model.{Model}
use Rattle.record_layout.specs.declared.Model.TheVariants.{Ours, Third}
use Rattle.record_layout.specs.declared.Kind.TheVariants.{Queue as QueueKind}
use Rattle.record_layout.specs.Layout.{energy_width, queue_least, number_from, entries_in, length_in, frame_rows}

-- ---- the fields
abbrev pub maximum_in : Model → List ℕ → ℕ
maximum_in model bytes = number_from (QueueKind model) 0 bytes

abbrev pub held_in : Model → List ℕ → ℕ
held_in model bytes = number_from (QueueKind model) 1 bytes

abbrev pub patterns_in : Model → List ℕ → List ℕ
patterns_in model bytes = entries_in (QueueKind model) (held_in model bytes) bytes

-- ---- floats and their patterns
abbrev pub nan_pattern : ℕ
nan_pattern = 0x7FF8_0000_0000_0000

abbrev pub energies_of : List ℕ → List Float
energies_of patterns = map (of_bits binary64) patterns

-- NaN has the one pattern
abbrev pub patterns_of : List Float → List ℕ
patterns_of energies = map (to_bits binary64) energies

-- ---- CONTENT
-- "maximum 1..36,000", and held not above it
unfoldable pub numbers_fit : ℕ → ℕ → Bool
numbers_fit maximum held = leb 1 maximum && (leb maximum longest && leb held maximum)

-- "none below boundary 0; NaN only as 7FF8000000000000 hex"
unfoldable pub pattern_fits : ℕ → Bool
pattern_fits pattern = not (dropped (of_bits binary64 pattern)) && (not (is_nan (of_bits binary64 pattern)) || eqb pattern nan_pattern)

unfoldable pub every : (ℕ → Bool) → List ℕ → Bool
every test [] = true
every test (pattern ∷ rest) = test pattern && every test rest

abbrev pub all_fit : List ℕ → Bool
all_fit patterns = every pattern_fits patterns

-- ---- reading
-- "A read queue starts at place 0 with head 0; other places stay."
unfoldable pub stored : Model → List ℕ → List Float → List Float
stored model bytes store = energies_of (patterns_in model bytes) ++ drop (held_in model bytes) store

abbrev pub queue_in : Model → List ℕ → Queue
queue_in model bytes = record { maximum = maximum_in model bytes; head = 0; held = held_in model bytes }

-- "maximum or held CONTENT; length unlike 10 + 8·held LENGTH; energies CONTENT"
abbrev pub content_rows : Model → List ℕ → List Row
content_rows model bytes =
    row CONTENT (not (numbers_fit (maximum_in model bytes) (held_in model bytes)))
    ∷ row LENGTH (not (eqb (length_in bytes) (queue_least + energy_width * held_in model bytes)))
    ∷ row CONTENT (not (all_fit (patterns_in model bytes)))
    ∷ []

-- "Read order: under 6 bytes LENGTH; KIND; length field unlike the bytes given, kind 2 under 10, LENGTH", and then the content's
abbrev pub check_rows : Model → List ℕ → List Row
check_rows model bytes = frame_rows (QueueKind model) bytes ++ content_rows model bytes

-- the queue that a record has, whatever store it is read into
unfoldable pub check_queue : Model → List ℕ → Question Queue
check_queue model bytes = by_rows (check_rows model bytes) (answers (queue_in model bytes))

-- STORE: "maximum .. unlike its store", the last of all
abbrev pub store_rows : Model → List ℕ → List Float → List Row
store_rows model bytes store = row STORE (not (eqb (length store) (maximum_in model bytes))) ∷ []

abbrev pub read_energies_rows : Model → List ℕ → List Float → List Row
read_energies_rows model bytes store = check_rows model bytes ++ store_rows model bytes store

unfoldable pub read_energies : Model → List ℕ → List Float → Outcome (List Float) Queue
read_energies model bytes store = by_rows (read_energies_rows model bytes store) (went (stored model bytes store) (queue_in model bytes))

-- kind 2, and kind 258
abbrev pub read_queue : List ℕ → List Float → Outcome (List Float) Queue
read_queue bytes store = read_energies Ours bytes store

abbrev pub read_third_queue : List ℕ → List Float → Outcome (List Float) Queue
read_third_queue bytes store = read_energies Third bytes store
