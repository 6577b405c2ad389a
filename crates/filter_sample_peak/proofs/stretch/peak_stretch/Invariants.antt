use Rattle.std.proofs.Common.{◌≡◌, ℕ, ◌-◌, ◌≤◌, get_or}
use lib.Ieee.{nan}
use Rattle.filter_sample_peak.specs.Peak.{over_channels}
use Rattle.filter_sample_peak.proofs.Loudest.{peaks}
use Rattle.filter_sample_peak.proofs.stretch.peak_stretch.Given as goal

abbrev pub invariant-loop-k : goal.invariant-loop-k
invariant-loop-k l = record {
  gives : over_channels (peaks l.stretch l.channels l.count) (l.channels - l.k) l.k l.w.values ≡ over_channels (peaks l.stretch l.channels l.count) l.channels 0 l.initial.w.values;
  later : (j : ℕ) → l.k ≤ j → get_or l.w.values j nan ≡ get_or l.initial.w.values j nan;
}
