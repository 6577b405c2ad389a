use Rattle.std.proofs.Common.{get_or}
use Rattle.std.specs.Float.{nan}
use Rattle.base_floats.specs.Largest.{magnitude, greater}
use Rattle.true_peak_scan.proofs.Changed.{Changed}
use Rattle.true_peak_scan.proofs.raise.Given as goal

abbrev pub invariant-loop-f : goal.invariant-loop-f
invariant-loop-f g l = Changed g.row.N (λ k. greater (get_or l.fn.peaks k nan) (magnitude (get_or l.phases k nan))) l.fn.peaks l.peaks l.f
