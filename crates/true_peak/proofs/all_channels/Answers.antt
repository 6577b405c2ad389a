-- `true_peak::all_channels` meets its contract: the channels that are left give what all channels give. Assumes nothing.
use Rattle.std.proofs.Common.{ℕ, ◌/◌, map, length, ◌≡◌, ap, sym, ◌∙◌}
use native.Mathlib.Nat.{div-mul-le_self}
use lib.ListN.{length-map}
use Rattle.samples.specs.Frames.{column}
use Rattle.true_peak_state.specs.Channel.{heard}
use Rattle.true_peak_state.specs.TruePeak.{Heard, channel_of, with_channel, measured}
use Rattle.true_peak_state.proofs.Channels.{channels_start, channels_turn, channels_end}
use Rattle.true_peak.proofs.all_channels.Goals as goal

pub loop-c-init : goal.loop-c-init
loop-c-init g c = let a = c.args in channels_start a.i (record { channels = a.channels; samples = map g.S.Sample.in_f32 a.samples.now }) a.channels a.t

pub listen-w-requires-clause-channels_in_bounds : goal.listen-w-requires-clause-channels_in_bounds
listen-w-requires-clause-channels_in_bounds g c = div-mul-le_self (length c.args.samples.now) c.args.channels

pub loop-c-preserved : goal.loop-c-preserved
loop-c-preserved g c =
    let l = c.loop-c in
    let a = c.args in
    let b : Heard = record { channels = a.channels; samples = map g.S.Sample.in_f32 a.samples.now } in
    let same : length a.samples.now ≡ length b.samples = sym (length-map a.samples.now g.S.Sample.in_f32) in
    channels_turn a.i b l.c a.channels l.w c.listen-w.result c.loop-c-test.true
    (c.listen-w.ensures ∙ ap (λ (n : ℕ). with_channel l.w l.c (heard a.i (channel_of l.w l.c) (column b.samples l.c a.channels (n / a.channels)))) same)
    ∙ l.invariant

pub returns : goal.returns
unfolding measured
returns g c =
    let l = c.loop-c in
    let a = c.args in
    channels_end a.i (record { channels = a.channels; samples = map g.S.Sample.in_f32 a.samples.now }) l.c a.channels l.w c.loop-c-test.false ∙ l.invariant
