-- `Work::weigh_channel` meets its contract: a byte of 0 leaves all as it is, and any other puts the channel's memory through `weigh`. Assumes nothing.
use Rattle.std.proofs.Common.{map, ap, ◌∙◌, ne_eqb, arith}
use lib.Seq.{sets}
use Rattle.filter_recurrence.specs.declared.Memory.{Memory}
use Rattle.filter_recurrence.specs.Channels.{with_memory}
use Rattle.filter_weighting.specs.Inner.{memory_in, outs_in, place_of, kept_of}
use Rattle.filter_weighting.proofs.channels.Work.weigh_channel.Goals as goal

pub returns : goal.returns
returns g c =
    let a = c.args in
    let src = map g.S.Sample.in_f64 a.samples.now in
    let e = c.store.ensures ∙ ap (with_memory a.state.now a.k) (c.weigh.ensures.value ∙ ap (memory_in a.self src a.k) c.load-m.ensures) in
    let d = c.weigh.ensures.dest_after ∙ ap (λ (m : Memory). sets a.dest.now (place_of a.self a.k) (outs_in a.self src a.k m)) c.load-m.ensures in
    rw (ne_eqb a.byte 0 (λ e. omega arith)) (λ i. kept_of (e i) (d i))
