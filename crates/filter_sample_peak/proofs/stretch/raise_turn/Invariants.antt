use Rattle.std.proofs.Common.{◌≡◌, ℕ, ◌-◌, ◌≤◌, length, get_or}
use lib.Ieee.{nan}
use Rattle.filter_sample_peak.specs.Peak.{over_channels}
use Rattle.filter_sample_peak.proofs.Lanes.{turn}
use Rattle.filter_sample_peak.proofs.stretch.raise_turn.Given as goal

abbrev pub invariant-loop-j : goal.invariant-loop-j
invariant-loop-j l = record {
  gives : over_channels (turn l.turn) (length l.turn - l.j) l.j l.w.values ≡ over_channels (turn l.turn) (length l.turn) 0 l.initial.w.values;
  later : (i : ℕ) → l.j ≤ i → get_or l.w.values i nan ≡ get_or l.initial.w.values i nan;
}
