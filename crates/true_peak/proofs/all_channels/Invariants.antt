use Rattle.std.proofs.Common.{◌≡◌, ◌-◌, map}
use Rattle.true_peak_state.specs.TruePeak.{Heard, channels_from}
use Rattle.true_peak.proofs.all_channels.Given as goal

abbrev pub invariant-loop-c : goal.invariant-loop-c
invariant-loop-c g l =
    let b : Heard = record { channels = l.channels; samples = map g.S.Sample.in_f32 l.samples } in
    channels_from l.fn.i b l.c (l.channels - l.c) l.w ≡ channels_from l.fn.i b 0 l.channels l.initial.w
