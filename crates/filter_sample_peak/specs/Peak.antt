-- The sample peak (01, step 3): "Per channel, unused ones too: start at 0, take the largest absolute value; NaN never wins. It replaces the stored peak only if greater."
use Rattle.std.specs.Prelude.{ℕ, zero, suc, List, length, get_or, set, Float}
use Rattle.std.specs.Float.{nan}
use Rattle.base_floats.specs.Entry.{plus_zero}
use Rattle.base_floats.specs.Largest.{greater, greatest, largest}
use Rattle.base_refusals.specs.Outcome.{Outcome, went, NoValues, done}
use Rattle.samples.specs.Frames.{channel_of}
use Rattle.base_refusals.specs.Rows.{by_rows}
use Rattle.filter_checks.specs.Calls.{frame_rows}
use Rattle.filter_sample_peak.specs.declared.Peaks.{Peaks}

-- n values changed, from channel k on
unfoldable pub over_channels : (ℕ → Float → Float) → ℕ → ℕ → List Float → List Float
over_channels change zero k values = values
over_channels change (suc n) k values = over_channels change n (suc k) (set values k (change k (get_or values k nan)))

-- the peaks after a call of so many channels over the floats that the interleaved samples become: "It replaces the stored peak only if greater."
unfoldable pub peaks_after : ℕ → List Float → List Float → List Float
unfolding over_channels greatest
peaks_after channels samples stored =
    over_channels (λ k peak. greater peak (largest plus_zero (channel_of channels samples k))) channels 0 stored

-- what a call comes to
unfoldable pub raised : ℕ → List Float → Peaks → Outcome Peaks NoValues
raised channels samples stored =
    by_rows (frame_rows channels (length samples)) (went (record { values = peaks_after channels samples stored.values }) done)
