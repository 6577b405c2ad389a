-- The call `process`: what it comes to.
-- "Steps 3, 4 and 6 are switched on separately; one that is off alters nothing."
use Rattle.std.specs.Prelude.{cond, List, length, Float}
use Rattle.base_refusals.specs.Outcome.{Outcome, went, NoValues, done}
use Rattle.base_refusals.specs.Rows.{Row, by_rows}
use Rattle.samples.specs.Kinds.{size_of, as_f64}
use Rattle.filter_checks.specs.Calls as calls
use Rattle.filter_weighting.specs.Weighting.{dest_after}
use Rattle.filter_sample_peak.specs.declared.Peaks.{Peaks}
use Rattle.filter_sample_peak.specs.Peak.{peaks_after}
use Rattle.true_peak_interp.specs.Interp.{kind_of}
use Rattle.true_peak_state.specs.declared.TruePeak.{TruePeak}
use Rattle.true_peak_state.specs.TruePeak.{measured}
use Rattle.filter.specs.Filter.{moved}
use Rattle.filter.specs.Call.{Call, Kept, weighing, hearing, weighed_state}

-- each step alters its own things, where it is on
abbrev pub weighed_dest : Call → List Float
weighed_dest call = cond call.filter.switches.loudness (dest_after (weighing call) call.dest call.start) call.dest

abbrev pub measured_peaks : Call → Peaks
measured_peaks call =
    cond call.filter.switches.peak (record { values = peaks_after call.filter.channels (as_f64 call.samples) call.filter.peaks.values }) call.filter.peaks

abbrev pub measured_true_peaks : Call → TruePeak
measured_true_peaks call = cond call.filter.switches.true_peak (measured (kind_of call.filter.rate) (hearing call) call.filter.true_peak) call.filter.true_peak

-- CHANNELS, SAMPLES, MAP and, with loudness on, DEST
abbrev pub process_rows : Call → List Row
process_rows call =
    calls.process_rows call.filter.switches.loudness
    (calls.sizes call.filter.channels (size_of call.samples) (length call.dest) call.start) call.map

unfoldable pub processed : Call → Outcome Kept NoValues
processed call =
    by_rows (process_rows call)
    (went (record { filter = moved call.filter (weighed_state call) (measured_peaks call) (measured_true_peaks call); dest = weighed_dest call }) done)
