use Rattle.std.proofs.Common.{take}
use Rattle.true_peak_scan.specs.Line.{back}
use Rattle.true_peak_scan.proofs.Windows.{Carried}
use Rattle.true_peak_scan.proofs.frame.Given as goal

abbrev pub invariant-loop-i : goal.invariant-loop-i
invariant-loop-i g l = Carried l.taps g.row.N (take g.row.TAPS (back l.line l.at 24)) l.sums l.i
