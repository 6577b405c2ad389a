use Rattle.std.proofs.Common.{◌≡◌, ◌-◌}
use Rattle.filter_sample_peak.specs.Peak.{over_channels}
use Rattle.filter_sample_peak.proofs.Loudest.{raises}
use Rattle.filter_sample_peak.proofs.raise_peaks.Given as goal

abbrev pub invariant-loop-k : goal.invariant-loop-k
invariant-loop-k l = over_channels (raises l.tops.values) (l.channels - l.k) l.k l.w.values ≡ over_channels (raises l.tops.values) l.channels 0 l.initial.w.values
