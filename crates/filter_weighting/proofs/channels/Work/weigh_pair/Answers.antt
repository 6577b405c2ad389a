-- `Work::weigh_pair` meets its contract: both memories taken out, put through `weigh_two` and put back. Assumes nothing.
use Rattle.std.proofs.Common.{◌≡◌, ◌+◌, map, ap, ◌∙◌}
use lib.Seq.{sets}
use Rattle.filter_recurrence.specs.Channels.{memory_of, with_memory}
use Rattle.filter_weighting.specs.Inner.{memory_in, outs_in, place_of, kept_of}
use Rattle.filter_weighting.proofs.Pairs.{pair_is}
use Rattle.filter_weighting.proofs.channels.Work.weigh_pair.Goals as goal

pub returns : goal.returns
returns g c =
    let a = c.args in
    let w = a.self in
    let x = map g.S.Sample.in_f64 a.samples.now in
    let t = c.weigh_two-after in
    let e = c.load.ensures in
    let f = c.load-2.ensures in
    let m : t.result.one ≡ memory_in w x a.k (memory_of a.state.now a.k) = t.ensures.fact.0 ∙ ap (memory_in w x a.k) e in
    let n : t.result.two ≡ memory_in w x (a.k + 1) (memory_of a.state.now (a.k + 1)) = t.ensures.fact.1 ∙ ap (memory_in w x (a.k + 1)) f in
    let v = c.store-2.ensures ∙ (λ i. with_memory ((c.store.ensures ∙ ap (with_memory a.state.now a.k) m) i) (a.k + 1) (n i)) in
    let d = t.ensures.dest_after ∙ (λ i. sets (sets a.dest.now (place_of w a.k) (outs_in w x a.k (e i))) (place_of w a.k + w.part) (outs_in w x (a.k + 1) (f i))) in
    (λ i. kept_of (v i) (d i)) ∙ pair_is w x a.k a.state.now a.dest.now
