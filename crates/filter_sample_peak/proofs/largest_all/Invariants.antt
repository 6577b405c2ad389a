use Rattle.std.proofs.Common.{◌≡◌, ℕ, ◌*◌, ◌/◌, ◌<◌, map, length, get_or}
use lib.Ieee.{nan}
use Rattle.std.specs.Slice.Iter.{chunks_rest, chunks_size}
use Rattle.samples.specs.Frames.{column}
use Rattle.samples.specs.Stretches.{Framed}
use Rattle.samples.specs.Stretches.{stretch_places}
use Rattle.base_floats.specs.Entry.{plus_zero}
use Rattle.base_floats.specs.Largest.{largest}
use Rattle.base_floats.proofs.Magnitude.{High}
use Rattle.filter_sample_peak.proofs.largest_all.Given as goal

-- each channel's top, raised by the frames that are left, is the largest of all of them
abbrev pub invariant-loop-part : goal.invariant-loop-part
invariant-loop-part g l = record {
  size : chunks_size l.part-iterator ≡ stretch_places / l.fn.channels * l.fn.channels;
  places : length l.stretch ≡ stretch_places;
  peaks : length l.tops.values ≡ 8;
  whole : Framed l.fn.channels (length (chunks_rest l.part-iterator));
  high : (k : ℕ) → k < l.fn.channels → High (get_or l.tops.values k nan);
  gives : (k : ℕ) → k < l.fn.channels → let of = map g.S.Sample.in_f64 in let rest = chunks_rest l.part-iterator in
      largest (get_or l.tops.values k nan) (column (of rest) k l.fn.channels (length rest / l.fn.channels)) ≡ largest plus_zero (column (of l.fn.samples) k l.fn.channels (length l.fn.samples / l.fn.channels));
}
