use Rattle.std.proofs.Common.{◌≡◌, map, length}
use Rattle.std.specs.Int.{◌∣◌}
use Rattle.true_peak_interp.specs.Interp.{kind_of}
use Rattle.true_peak_state.specs.TruePeak.{measured}
use Rattle.true_peak_state.proofs.Independence.{Sized}
use Rattle.true_peak.proofs.calls.measure.Given as goal

abbrev pub invariant-loop-part : goal.invariant-loop-part
invariant-loop-part g l = record {
  batch : l.channels ∣ l.part-iterator.size;
  frames : l.channels ∣ length l.part-iterator.rest.now;
  sized : Sized l.w;
  same : measured (kind_of l.rate) (record { channels = l.channels; samples = map g.S.Sample.in_f32 l.part-iterator.rest.now }) l.w
      ≡ measured (kind_of l.rate) (record { channels = l.channels; samples = map g.S.Sample.in_f32 l.fn.samples }) l.initial.w;
}
