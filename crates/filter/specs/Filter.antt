-- The filter between its calls.
use Rattle.std.specs.Prelude.{ℕ, List, replicate, Float}
use Rattle.base_floats.specs.Entry.{plus_zero}
use Rattle.filter_recurrence.specs.declared.Coefficients.{Coefficients}
use Rattle.filter_recurrence.specs.declared.states.State.{State}
use Rattle.filter_recurrence.specs.Channels.{state_places}
use Rattle.filter_sample_peak.specs.declared.Peaks.{Peaks}
use Rattle.true_peak_state.specs.declared.TruePeak.{TruePeak}
use Rattle.true_peak_state.specs.TruePeak.{silent}
use Rattle.filter.specs.declared.Switches.{Switches}
use Rattle.filter.specs.declared.Filter.{Filter}
use Rattle.samples.specs.Frames.{most_channels}

-- every channel's weighting at rest, and every channel's peak 0
abbrev pub at_rest : State
at_rest = record { values = replicate state_places plus_zero }

abbrev pub no_peaks : List Float
no_peaks = replicate most_channels plus_zero

-- a filter that has heard nothing
abbrev pub resting : ℕ → ℕ → Switches → Coefficients → Filter
resting channels rate switches coefficients =
    record {
      channels = channels;
      rate = rate;
      switches = switches;
      coefficients = coefficients;
      state = at_rest;
      peaks = record { values = no_peaks };
      true_peak = silent;
    }

-- what a call moves of a filter, as arrays that are lent each by itself
pub record Arrays : Type 0 where
  pub state : List Float
  pub peaks : List Float
  pub memory : List Float
  pub true_peaks : List Float

-- the filter with another state, other peaks and other true peaks
abbrev pub moved : Filter → State → Peaks → TruePeak → Filter
moved filter state peaks trues =
    record {
      channels = filter.channels;
      rate = filter.rate;
      switches = filter.switches;
      coefficients = filter.coefficients;
      state = state;
      peaks = peaks;
      true_peak = trues;
    }

abbrev pub with_arrays : Filter → Arrays → Filter
with_arrays filter arrays =
    moved filter (record { values = arrays.state }) (record { values = arrays.peaks }) (record { memory = arrays.memory; peaks = arrays.true_peaks })
