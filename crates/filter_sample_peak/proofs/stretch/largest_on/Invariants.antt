use Rattle.std.proofs.Common.{◌≡◌}
use Rattle.samples.specs.Frames.{column}
use Rattle.base_floats.specs.Largest.{largest}
use Rattle.base_floats.proofs.Magnitude.{High}
use Rattle.filter_sample_peak.proofs.stretch.largest_on.Given as goal

abbrev pub invariant-loop-turn : goal.invariant-loop-turn
invariant-loop-turn l = record {
  not_low : High l.high;
  so_far : l.high ≡ largest l.fn.top (column l.fn.stretch l.fn.first l.fn.step l.turn);
}
