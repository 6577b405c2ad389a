-- The numbers that 01 and 02 write, each beside what the definitions behind the contracts have for it. A definition that is bent together with its code and its proofs still
-- stands against its line here. proofs/Literals.antt computes the table; a change request that moves a number of 01 moves its line, and brings its own.
use Rattle.std.specs.Prelude.{ℕ, ◌≡◌, Bool, true, false, List, [], ◌∷◌, map, get_or, ℤ, pos, negsuc, Float}
use Rattle.std.specs.Float.{nan, binary64}
use Rattle.std.specs.Float.Ieee.{of_bits, to_bits}
use Rattle.base_refusals.specs.Refusal.{number}
use Rattle.base_refusals.specs.declared.Refusal.TheVariants.{CHANNELS, SAMPLES, MAP, DEST, STORE, FULL, SET, MODE, NONE, NAN, SCALE, LENGTH, KIND, CONTENT, ROOM}
use Rattle.bins.specs.Bin.{bins}
use Rattle.bins.specs.Reading.{lowest}
use Rattle.history_histogram.specs.Histogram.{largest_count}
use Rattle.history_queue.specs.Queue.{suits, started}
use Rattle.history_set.specs.Set.{most_histories}
use Rattle.gate.specs.Relative.{tenth, lowest as lowest_loudness}
use Rattle.range_ranks.specs.Span.{hundredth}
use Rattle.samples.specs.Sample.{sample_of16}
use Rattle.filter_checks.specs.Calls.{wrong_channels, admits, used}
use Rattle.filter_recurrence.specs.Recurrence.{flush}
use Rattle.true_peak_interp.specs.Interp.{Kind, upsampled, no_true_peak, kind_of}
use Rattle.record_layout.specs.declared.Model.TheVariants.{Ours, Third}
use Rattle.record_layout.specs.declared.Kind.TheVariants.{Histogram, Queue}
use Rattle.record_layout.specs.Layout.{kind_number, can_be, entries_in, entry_bytes, length_in, kind_in, head_of}
use Rattle.record_queue_reader.specs.QueueRecord.{nan_pattern, maximum_in, held_in, patterns_in}

-- what a line compares
pub data Literal : Type 0 where
  whole : ℕ → Literal
  signed : ℤ → Literal
  truth : Bool → Literal
  float : Float → Literal
  scan : Kind → Literal

-- what the definitions have, and what 01 writes
pub record Line : Type 0 where
  pub ours : Literal
  pub written : Literal

abbrev pub is : Literal → Literal → Line
is ours written = record { ours = ours; written = written }

abbrev pub has : ℕ → ℕ → Line
has ours written = is (whole ours) (whole written)

abbrev pub answers_yes : Bool → Line
answers_yes ours = is (truth ours) (truth true)

abbrev pub answers_no : Bool → Line
answers_no ours = is (truth ours) (truth false)

-- an f64 by its pattern
abbrev pub f64 : ℕ → Float
f64 pattern = of_bits binary64 pattern

-- "Rate below 96,000: factor 4, 12 taps; below 192,000: factor 2, 24 taps; else no true peak"
abbrev pub scans : ℕ → ℕ → Kind
scans factor taps = upsampled (record { factor = factor; taps = taps })

-- a record of kind 258 (02, CR 3: "our own length and kind in front, low byte first, then the old body with each field high byte first"): maximum 3,600, and two energies held,
-- 1 and 2
abbrev pub third_queue : List ℕ
third_queue =
    0x1A ∷ 0 ∷ 0 ∷ 0 ∷ 0x02 ∷ 0x01
    ∷ 0 ∷ 0 ∷ 0x0E ∷ 0x10 ∷ 0 ∷ 0 ∷ 0 ∷ 2
    ∷ 0x3F ∷ 0xF0 ∷ 0 ∷ 0 ∷ 0 ∷ 0 ∷ 0 ∷ 0 ∷ 0x40 ∷ 0 ∷ 0 ∷ 0 ∷ 0 ∷ 0 ∷ 0 ∷ 0 ∷ []

-- ---- the table
abbrev pub lines : List Line
lines =
    -- 'Numbers of the refusals'
    has (number CHANNELS) 1
    ∷ has (number SAMPLES) 2
    ∷ has (number MAP) 3
    ∷ has (number DEST) 4
    ∷ has (number STORE) 5
    ∷ has (number FULL) 6
    ∷ has (number SET) 7
    ∷ has (number MODE) 8
    ∷ has (number NONE) 9
    ∷ has (number NAN) 10
    ∷ has (number SCALE) 11
    ∷ has (number LENGTH) 12
    ∷ has (number KIND) 13
    ∷ has (number CONTENT) 14
    ∷ has (number ROOM) 15
    -- "channels 0 or above 8"
    ∷ answers_yes (wrong_channels 0)
    ∷ answers_no (wrong_channels 1)
    ∷ answers_no (wrong_channels 8)
    ∷ answers_yes (wrong_channels 9)
    -- "a byte is not 0 (unused) or 1"
    ∷ answers_yes (admits 0)
    ∷ answers_yes (admits 1)
    ∷ answers_no (admits 2)
    ∷ answers_no (used 0)
    ∷ answers_yes (used 1)
    -- "not 1,000 counters"; "a counter would pass 4,294,967,295"; "more than 16 histories"
    ∷ has bins 1000
    ∷ has largest_count 4_294_967_295
    ∷ has most_histories 16
    -- "queue maximum outside 1..36,000"
    ∷ answers_no (suits (started 0) 0)
    ∷ answers_yes (suits (started 1) 1)
    ∷ answers_yes (suits (started 36_000) 36_000)
    ∷ answers_no (suits (started 36_001) 36_001)
    -- "i16 becomes s/32768": full scale, and one step
    ∷ is (float (sample_of16 (negsuc 32767))) (float (f64 0xBFF0_0000_0000_0000))
    ∷ is (float (sample_of16 (pos 1))) (float (f64 0x3F00_0000_0000_0000))
    -- "every state value of magnitude below 2^-1022, negative zero too, becomes +0": 2^-1022 stays, and so does its negative
    ∷ is (float (flush (f64 0x0010_0000_0000_0000))) (float (f64 0x0010_0000_0000_0000))
    ∷ is (float (flush (f64 0x8010_0000_0000_0000))) (float (f64 0x8010_0000_0000_0000))
    ∷ is (float (flush (f64 0x000F_FFFF_FFFF_FFFF))) (float (f64 0))
    ∷ is (float (flush (f64 0x800F_FFFF_FFFF_FFFF))) (float (f64 0))
    ∷ is (float (flush (f64 0x8000_0000_0000_0000))) (float (f64 0))
    -- the rate edges
    ∷ is (scan (kind_of 95_999)) (scan (scans 4 12))
    ∷ is (scan (kind_of 96_000)) (scan (scans 2 24))
    ∷ is (scan (kind_of 191_999)) (scan (scans 2 24))
    ∷ is (scan (kind_of 192_000)) (scan no_true_peak)
    -- 02, CR 1: "-700 + bin", in tenths
    ∷ is (signed lowest) (signed (negsuc 699))
    -- "the f64 nearest 1/10", "the f64 nearest 1/100", "-70.0 when empty"
    ∷ is (float tenth) (float (f64 0x3FB9_9999_9999_999A))
    ∷ is (float hundredth) (float (f64 0x3F84_7AE1_47AE_147B))
    ∷ is (float lowest_loudness) (float (f64 0xC051_8000_0000_0000))
    -- 'Records': kinds 1 and 2; "kind 1 unlike 4,002, kind 2 under 10, LENGTH"; "NaN as 7FF8000000000000"
    ∷ has (kind_number (Histogram Ours)) 1
    ∷ has (kind_number (Queue Ours)) 2
    ∷ answers_no (can_be (Histogram Ours) 4_001)
    ∷ answers_yes (can_be (Histogram Ours) 4_002)
    ∷ answers_no (can_be (Histogram Ours) 4_003)
    ∷ answers_no (can_be (Queue Ours) 9)
    ∷ answers_yes (can_be (Queue Ours) 10)
    -- 02, CR 3: "kind 257 (counters) and kind 258 (energies)", lengths as for kinds 1 and 2; the record above, read as its own kind and, as it stands, as ours; its
    -- numbers as two counters of kind 257; and the same bytes written
    ∷ has (kind_number (Histogram Third)) 257
    ∷ has (kind_number (Queue Third)) 258
    ∷ answers_yes (can_be (Histogram Third) 4_002)
    ∷ answers_no (can_be (Histogram Third) 4_003)
    ∷ answers_no (can_be (Queue Third) 9)
    ∷ answers_yes (can_be (Queue Third) 10)
    ∷ has (length_in third_queue) 26
    ∷ has (kind_in third_queue) 258
    ∷ has (maximum_in Third third_queue) 3_600
    ∷ has (held_in Third third_queue) 2
    ∷ has (get_or (patterns_in Third third_queue) 0 0) 0x3FF0_0000_0000_0000
    ∷ has (get_or (patterns_in Third third_queue) 1 0) 0x4000_0000_0000_0000
    ∷ has (maximum_in Ours third_queue) 0x100E_0000
    ∷ has (held_in Ours third_queue) 0x0200_0000
    ∷ has (get_or (entries_in (Histogram Third) 2 third_queue) 0 0) 3_600
    ∷ has (get_or (entries_in (Histogram Third) 2 third_queue) 1 0) 2
    ∷ has (get_or (entries_in (Histogram Ours) 2 third_queue) 0 0) 0x100E_0000
    ∷ has (get_or (entry_bytes (Histogram Third) (3_600 ∷ [])) 2 0) 0x0E
    ∷ has (get_or (entry_bytes (Histogram Third) (3_600 ∷ [])) 3 0) 0x10
    ∷ has (get_or (entry_bytes (Queue Third) (0x3FF0_0000_0000_0000 ∷ [])) 0 0) 0x3F
    ∷ has (get_or (entry_bytes (Queue Third) (0x3FF0_0000_0000_0000 ∷ [])) 1 0) 0xF0
    ∷ has (get_or (head_of (Queue Third) 26) 4 0) 0x02
    ∷ has (get_or (head_of (Queue Third) 26) 5 0) 0x01
    ∷ has nan_pattern 0x7FF8_0000_0000_0000
    ∷ has (to_bits binary64 nan) 0x7FF8_0000_0000_0000
    ∷ []

-- on every line the definitions have what 01 writes
abbrev pub AsWritten : Type 0
AsWritten = map (λ (l : Line). l.ours) lines ≡ map (λ (l : Line). l.written) lines
