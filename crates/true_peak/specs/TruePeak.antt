-- A call of the true peak over interleaved samples (01, steps 5 and 6).
use Rattle.std.specs.Prelude.{ℕ, List, length}
use Rattle.base_refusals.specs.Outcome.{Outcome, went, NoValues, done}
use Rattle.base_refusals.specs.Rows.{Row, by_rows}
use Rattle.filter_checks.specs.Calls.{frame_rows}
use Rattle.true_peak_interp.specs.Interp.{kind_of}
use Rattle.true_peak_state.specs.declared.TruePeak.{TruePeak}
use Rattle.true_peak_state.specs.TruePeak.{Heard, measured}

-- CHANNELS and SAMPLES
abbrev pub peak_rows : Heard → List Row
peak_rows b = frame_rows b.channels (length b.samples)

-- what a call comes to that would leave a state
abbrev pub unless_refused : Heard → TruePeak → Outcome TruePeak NoValues
unless_refused b t = by_rows (peak_rows b) (went t done)

abbrev pub processed : ℕ → Heard → TruePeak → Outcome TruePeak NoValues
processed rate b t = unless_refused b (measured (kind_of rate) b t)

-- `seed` moves the memory and writes no peak
abbrev pub seeded : ℕ → Heard → TruePeak → Outcome TruePeak NoValues
seeded rate b t = unless_refused b (record { memory = (measured (kind_of rate) b t).memory; peaks = t.peaks })
