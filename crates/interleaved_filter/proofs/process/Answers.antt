-- `interleaved_filter::process` meets its contract: the number of channels decides. Assumes nothing.
use Rattle.std.proofs.Common.{ap}
use Rattle.filter.specs.Call.{Call}
use Rattle.filter.specs.Process.{processed}
use Rattle.interleaved_filter.specs.Said.{said_of}
use Rattle.interleaved_filter.proofs.Counts.{said_on, filter_on, dest_on, said_off, filter_off, dest_off}
use Rattle.interleaved_filter.proofs.process.Goals as goal

pub returns-then-source-filter : goal.returns-then-source-filter
returns-then-source-filter g c =
    let a = c.args in
    let n = a.source.channels in
    let call : Call = record { filter = a.filter; samples = g.S.Sample.lent a.source.samples.now; map = a.map.now; dest = a.dest.now; start = a.start } in
    let h = c.if-source-filter.true in
    let o = c.other_channels.ensures in
    (said_off processed n call h _ (ap said_of o.0), filter_off processed n call h _ o.1, dest_off processed n call h)

pub returns : goal.returns
returns g c =
    let a = c.args in
    let n = a.source.channels in
    let call : Call = record { filter = a.filter; samples = g.S.Sample.lent a.source.samples.now; map = a.map.now; dest = a.dest.now; start = a.start } in
    let e = c.if-source-filter.false in
    let r = c.from.ensures in
    let p = c.process.ensures in
    (said_on processed n call e _ _ r.0 p.0, filter_on processed n call e _ _ r.1 p.1, dest_on processed n call e _ p.2)
