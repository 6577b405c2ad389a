-- "Each public operation says what it answers and what every lent store, peak, destination and state holds afterwards, refused calls too. Two outcomes that satisfy
-- a statement are proved the same" (01, 'How tight each statement is'). A contract has one shape: what is answered is what the call's definition says, and
-- what stands afterwards is what it keeps. proofs/Fixed.antt proves `EachFixed`. What no statement can see is listed in docs/STATEMENTS.md: NaN is one value
-- here, whatever its bits.
use Rattle.std.specs.Prelude.{◌≡◌, List, ℕ, Float}
use Rattle.base_refusals.specs.Outcome.{Outcome, Said, said_by, kept_by}
use Rattle.base_refusals.specs.Answer.{said}
use Rattle.bins.specs.Reading.{reading_of}
use Rattle.history_histogram.specs.Histogram.{add_to, cleared}
use Rattle.history_histogram.specs.Merge.{merge_into}
use Rattle.history_queue.specs.Queue.{Stored}
use Rattle.history_queue.specs.Adding.{enqueued}
use Rattle.history_set.specs.declared.set.Entry.{Entry}
use Rattle.history_set.specs.Set.{Histories}
use Rattle.gate.specs.Gate.{gate_of}
use Rattle.gate.specs.Relative.{relative_of, said as said_threshold}
use Rattle.gate.specs.GatedEnergy.{gated_energy_of}
use Rattle.range_ranks.specs.Span.{said as said_range}
use Rattle.range_histograms.specs.Counted.{histogram_range}
use Rattle.range_queues.specs.Listed.{queue_range}
use Rattle.range.specs.Range.{range_of}

-- a call's end meets its statement: this answer, where `kept` stands after the call and `given` stood before
pub record Meets {Answer Kept Values : Type 0} (said : Answer → Said Values) (given : Kept) (call : Outcome Kept Values) (answer : Answer) (kept : Kept) : Type 0 where
  pub answered : said answer ≡ said_by call
  pub standing : kept ≡ kept_by given call

-- two ends that meet it are the same
abbrev pub Fixed : {Answer Kept Values : Type 0} → (Answer → Said Values) → Kept → Outcome Kept Values → Type 0
Fixed {Answer} {Kept} said given call =
    (answer other : Answer) (kept otherwise : Kept) → Meets said given call answer kept → Meets said given call other otherwise → (answer ≡ other) × (kept ≡ otherwise)

-- whatever an operation with such answers comes to
abbrev pub Fixes : {Answer Values : Type 0} → (Kept : Type 0) → (Answer → Said Values) → Type 0
Fixes {Answer} {Values} Kept said = (given : Kept) (call : Outcome Kept Values) → Fixed said given call

-- the operations, each by what its contract says of it. A question keeps nothing
pub record EachFixed : Type 0 where
  pub reading : (energy : Float) → Fixed said tt (reading_of energy)
  pub histogram_add : (counters : List ℕ) (energy : Float) → Fixed said counters (add_to counters energy)
  pub histogram_merge : (into from : List ℕ) → Fixed said into (merge_into into from)
  pub histogram_reset : (counters : List ℕ) → Fixed said counters (cleared counters)
  -- the queue by value and its lent store
  pub queue_add : (s : Stored) (energy : Float) → Fixed said s (enqueued s energy)
  pub gate : (h : Histories) → Fixed said tt (gate_of h)
  pub gated_energy : (h : Histories) → Fixed said tt (gated_energy_of h)
  pub relative_threshold : (entry : Entry) (counters : List ℕ) (energies : List Float) → Fixed said_threshold tt (relative_of entry counters energies)
  -- the work slice; and the range over histograms and over queues by themselves
  pub loudness_range : (h : Histories) (work : List Float) → Fixed said_range work (range_of h work)
  pub range_of_histograms : (h : Histories) → Fixed said_range tt (histogram_range h)
  pub range_of_queues : (h : Histories) (work : List Float) → Fixed said_range work (queue_range h work)
