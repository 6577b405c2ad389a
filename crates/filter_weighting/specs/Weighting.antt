-- A call of the weighting (01, step 4): "Output goes to the channel's own equal part of the destination, from the start index."
-- "An unused channel keeps state and destination."
use Rattle.std.specs.Prelude.{ℕ, ◌+◌, ◌*◌, ◌/◌, true, List, length, Float}
use Rattle.std.proofs.lemmas.List.Edits.{sets}
use Rattle.base_refusals.specs.Outcome.{Outcome, went, kept_by, NoValues, done}
use Rattle.base_refusals.specs.Rows.{Row, by_rows}
use Rattle.filter_checks.specs.Calls.{sizes, process_rows}
use Rattle.filter_recurrence.specs.declared.states.State.{State}
use Rattle.filter_recurrence.specs.Recurrence.{outs}
use Rattle.filter_recurrence.specs.Channels.{Weighing, heard, memory_of, each_used, state_after}

-- each used channel's outputs stored in its own equal part of the destination, from the start index
abbrev pub over_parts : (ℕ → List Float) → ℕ → ℕ → List ℕ → ℕ → List Float → List Float
over_parts outputs part start bytes k dest = each_used (λ j d. sets d (j * part + start) (outputs j)) bytes k dest

-- the destination after a call
unfoldable pub dest_after : Weighing → List Float → ℕ → List Float
unfolding each_used outs
dest_after call dest start =
    over_parts (λ k. outs call.coefficients.a call.coefficients.b (memory_of call.state.values k) (heard call k))
    (length dest / call.channels) start call.map 0 dest

-- what a call has in hand, and what it leaves
pub record Kept : Type 0 where
  pub state : State
  pub dest : List Float

-- CHANNELS, SAMPLES, MAP and DEST
abbrev pub weighing_rows : Weighing → List Float → ℕ → List Row
weighing_rows call dest start = process_rows true (sizes call.channels (length call.samples) (length dest) start) call.map

-- what a call comes to
unfoldable pub weighed : Weighing → List Float → ℕ → Outcome Kept NoValues
weighed call dest start =
    by_rows (weighing_rows call dest start)
    (went (record { state = record { values = state_after call }; dest = dest_after call dest start }) done)

-- what stands after it: what it leaves, and what it was given where it is refused
abbrev pub kept : Weighing → List Float → ℕ → Kept
kept call dest start = kept_by (record { state = call.state; dest = dest }) (weighed call dest start)
