-- `interleaved_slices::sample_at` meets its contract: the refusal of the frames, nothing past the end, or the sample at its place, which lies inside the samples. Assumes nothing.
use Rattle.std.proofs.Common.{ap, ◌∙◌, arith, inl, inr}
use Rattle.std.proofs.lemmas.Result.{err_from_is_err_and}
use Rattle.interleaved_slices.proofs.Checking.{sample_stops, place_inside, sample_past, sample_there}
use Rattle.interleaved_slices.proofs.sample_at.Goals as goal
use Rattle.interleaved_slices.proofs.sample_at.Goals.{then-channels-channel-via-then-channels-channel, then-channels-channel-via-else-channels-channel+then-frames-frame}

pub returns-in_err-frames : goal.returns-in_err-frames
returns-in_err-frames g c =
    let a = c.args in
    let p = err_from_is_err_and c.from_residual.result c.from_residual.ensures.1 in
    rw (p.1, p.2) (sample_stops g.S.Sample.in_f64 a.samples.now a.channels a.channel a.frame c.in_err-frames.field-0.0 c.in_err-frames.ensures)

pub returns-then-channels-channel : goal.returns-then-channels-channel
returns-then-channels-channel g c =
    let a = c.args in
    let past = sample_past g.S.Sample.in_f64 a.samples.now a.channels a.channel a.frame c.in_ok-frames.frames c.in_ok-frames.ensures in
    elim c.then-channels-channel.branch [
      | then-channels-channel-via-then-channels-channel w ↦ past (inl w.if-channels-channel.true)
      | then-channels-channel-via-else-channels-channel+then-frames-frame w ↦ past (inr w.if-frames-frame.true)
    ]

pub overflow_mul-frame : goal.overflow_mul-frame
overflow_mul-frame g c = let a = c.args in omega (arith, place_inside g.S.Sample.in_f64 a.samples.now a.channels a.channel a.frame c.in_ok-frames.frames c.in_ok-frames.ensures c.if-channels-channel.false c.if-frames-frame.false)

pub overflow_add-frame : goal.overflow_add-frame
overflow_add-frame g c = let a = c.args in omega (arith, place_inside g.S.Sample.in_f64 a.samples.now a.channels a.channel a.frame c.in_ok-frames.frames c.in_ok-frames.ensures c.if-channels-channel.false c.if-frames-frame.false)

pub offset_bounds-samples-frame : goal.offset_bounds-samples-frame
offset_bounds-samples-frame g c = let a = c.args in omega (arith, place_inside g.S.Sample.in_f64 a.samples.now a.channels a.channel a.frame c.in_ok-frames.frames c.in_ok-frames.ensures c.if-channels-channel.false c.if-frames-frame.false)

pub bounds-samples-frame : goal.bounds-samples-frame
bounds-samples-frame g c = let a = c.args in place_inside g.S.Sample.in_f64 a.samples.now a.channels a.channel a.frame c.in_ok-frames.frames c.in_ok-frames.ensures c.if-channels-channel.false c.if-frames-frame.false

pub returns : goal.returns
returns g c =
    let a = c.args in
    let f = g.S.Sample.in_f64 in
    let i = c.index-samples-frame in
    sample_there f a.samples.now a.channels a.channel a.frame c.in_ok-frames.frames c.in_ok-frames.ensures i.result c.to_f64.result c.if-channels-channel.false c.if-frames-frame.false (c.to_f64.ensures ∙ ap f i.is)
