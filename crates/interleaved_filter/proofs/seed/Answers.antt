-- `interleaved_filter::seed` meets its contract: the number of channels decides. Assumes nothing.
use Rattle.std.proofs.Common.{ap}
use Rattle.filter.specs.Call.{seed_of}
use Rattle.filter.specs.Seed.{seeded}
use Rattle.interleaved_filter.specs.Said.{said_of}
use Rattle.interleaved_filter.proofs.Counts.{said_on, filter_on, said_off, filter_off}
use Rattle.interleaved_filter.proofs.seed.Goals as goal

pub returns-then-source-filter : goal.returns-then-source-filter
returns-then-source-filter g c =
    let a = c.args in
    let n = a.source.channels in
    let call = seed_of a.filter (g.S.Sample.lent a.source.samples.now) a.map.now in
    let h = c.if-source-filter.true in
    let o = c.other_channels.ensures in
    (said_off seeded n call h _ (ap said_of o.0), filter_off seeded n call h _ o.1)

pub returns : goal.returns
returns g c =
    let a = c.args in
    let n = a.source.channels in
    let call = seed_of a.filter (g.S.Sample.lent a.source.samples.now) a.map.now in
    let e = c.if-source-filter.false in
    let r = c.from.ensures in
    let p = c.seed.ensures in
    (said_on seeded n call e _ _ r.0 p.0, filter_on seeded n call e _ _ r.1 p.1)
