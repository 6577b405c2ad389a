-- The call `seed`: what it comes to.
-- "`seed` moves filter and interpolator state and writes no peak and no destination."
use Rattle.std.specs.Prelude.{cond, List}
use Rattle.base_refusals.specs.Outcome.{Outcome, went, NoValues, done}
use Rattle.base_refusals.specs.Rows.{Row, by_rows}
use Rattle.samples.specs.Kinds.{size_of}
use Rattle.filter_checks.specs.Calls as calls
use Rattle.true_peak_interp.specs.Interp.{kind_of}
use Rattle.true_peak_state.specs.declared.TruePeak.{TruePeak}
use Rattle.true_peak_state.specs.TruePeak.{measured}
use Rattle.filter.specs.Filter.{moved}
use Rattle.filter.specs.Call.{Call, Kept, hearing, weighed_state}

-- the interpolator's memory moves, where the true peak is on, and its peaks stay
abbrev pub remembered_true_peaks : Call → TruePeak
remembered_true_peaks call =
    cond call.filter.switches.true_peak
    (record { memory = (measured (kind_of call.filter.rate) (hearing call) call.filter.true_peak).memory; peaks = call.filter.true_peak.peaks })
    call.filter.true_peak

-- CHANNELS, SAMPLES and MAP
abbrev pub seed_rows : Call → List Row
seed_rows call = calls.seed_rows call.filter.channels (size_of call.samples) call.map

unfoldable pub seeded : Call → Outcome Kept NoValues
seeded call =
    by_rows (seed_rows call) (went (record { filter = moved call.filter (weighed_state call) call.filter.peaks (remembered_true_peaks call); dest = call.dest }) done)
