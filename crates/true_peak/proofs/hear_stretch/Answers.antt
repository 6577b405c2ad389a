-- `true_peak::hear_stretch` meets its contract: the stretch is stored after the history, scanned, and its last samples carried to the front. Assumes nothing.
use Rattle.std.proofs.Common.{map, arith}
use Rattle.true_peak.proofs.Stretches.{stretch_heard}
use Rattle.true_peak.proofs.hear_stretch.Goals as goal

pub returns : goal.returns
returns g c =
    let a = c.args in
    stretch_heard a.kernel.now.i (map g.S.Sample.in_f32 a.samples.now) a.line.now c.gather.new.line c.carry.new.line a.first a.channels a.n a.peak c.scan-loud.result
    (omega (arith, c.requires))
    c.gather.ensures
    c.scan-loud.ensures
    c.carry.ensures
