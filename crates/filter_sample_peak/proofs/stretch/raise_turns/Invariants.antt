use Rattle.std.proofs.Common.{◌≡◌, ℕ, ◌/◌, ◌<◌, length, get_or}
use lib.Ieee.{nan}
use Rattle.std.specs.Slice.Iter.{chunks_exact_rest, chunks_exact_size}
use Rattle.samples.specs.Frames.{column}
use Rattle.base_floats.specs.Entry.{plus_zero}
use Rattle.base_floats.specs.Largest.{largest}
use Rattle.base_floats.proofs.Magnitude.{High}
use Rattle.filter_sample_peak.proofs.stretch.raise_turns.Given as goal

-- each lane's top, raised by the turns that are left, is the largest of all of them
abbrev pub invariant-loop-turn : goal.invariant-loop-turn
invariant-loop-turn l = record {
  size : chunks_exact_size l.turn-iterator ≡ l.fn.lanes;
  places : length l.w.values ≡ 24;
  high : (j : ℕ) → j < l.fn.lanes → High (get_or l.w.values j nan);
  gives : (j : ℕ) → j < l.fn.lanes → let rest = chunks_exact_rest l.turn-iterator in
      largest (get_or l.w.values j nan) (column rest j l.fn.lanes (length rest / l.fn.lanes)) ≡ largest plus_zero (column l.fn.stretch j l.fn.lanes (length l.fn.stretch / l.fn.lanes));
}
