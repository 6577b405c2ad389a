-- `fills::fill` meets its contract: each turn stores one sample more, and the loop ends with the stretch or the samples. Assumes nothing.
use Rattle.std.proofs.Common.{length, arith}
use Rattle.samples.proofs.Fill.{ends, at_shorter}
use Rattle.samples.proofs.fills.fill.Goals as goal

pub returns : goal.returns
returns g c =
    let a = c.args in
    let l = c.loop-i in
    ends g.S.Sample.in_f64 a.from.now a.stretch.now l.stretch l.i
    (at_shorter (length a.stretch.now) (length a.from.now) l.i (omega arith)) l.invariant
