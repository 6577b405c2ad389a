-- One call of the filter: what it is given, and what each part of the filter is given of it.
use Rattle.std.specs.Prelude.{ℕ, cond, List, [], Float}
use Rattle.base_refusals.specs.Outcome.{Outcome, kept_by, NoValues}
use Rattle.samples.specs.Kinds.{Samples, as_f64, as_f32}
use Rattle.filter_recurrence.specs.declared.states.State.{State}
use Rattle.filter_recurrence.specs.Channels as recurrence
use Rattle.true_peak_state.specs.TruePeak.{Heard}
use Rattle.filter.specs.declared.Filter.{Filter}
use Rattle.filter.specs.Filter.{Arrays, with_arrays}

-- the samples are interleaved; `start` is the index in each channel's part of the destination that the outputs go to from
pub record Call : Type 0 where
  pub filter : Filter
  pub samples : Samples
  pub map : List ℕ
  pub dest : List Float
  pub start : ℕ

-- a seed call has no destination
abbrev pub seed_of : Filter → Samples → List ℕ → Call
seed_of filter samples map = record { filter = filter; samples = samples; map = map; dest = []; start = 0 }

-- what the weighting is given
abbrev pub weighing : Call → recurrence.Weighing
weighing call = recurrence.weighing_of call.filter.coefficients call.filter.state call.filter.channels (as_f64 call.samples) call.map

-- what the true peak hears
abbrev pub hearing : Call → Heard
hearing call = record { channels = call.filter.channels; samples = as_f32 call.samples }

-- what a call has in hand, and what it leaves
pub record Kept : Type 0 where
  pub filter : Filter
  pub dest : List Float

abbrev pub given : Call → Kept
given call = record { filter = call.filter; dest = call.dest }

-- what stands in the arrays that a call was lent
abbrev pub standing : Filter → Arrays → List Float → Kept
standing filter arrays dest = record { filter = with_arrays filter arrays; dest = dest }

-- what stands after a call: what it leaves, and what it was given where it is refused
abbrev pub kept : (Call → Outcome Kept NoValues) → Call → Kept
kept operation call = kept_by (given call) (operation call)

-- the weighting's state after the call: "one that is off alters nothing"
abbrev pub weighed_state : Call → State
weighed_state call = cond call.filter.switches.loudness (record { values = recurrence.state_after (weighing call) }) call.filter.state
