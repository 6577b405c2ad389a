use Rattle.std.proofs.Common.{◌+◌, get_or}
use Rattle.std.specs.Float.{nan}
use Rattle.true_peak_interp.specs.Phase.{plus}
use Rattle.true_peak_scan.proofs.Changed.{Changed}
use Rattle.true_peak_scan.proofs.carry_on.Given as goal

abbrev pub invariant-loop-f : goal.invariant-loop-f
invariant-loop-f g l = Changed g.row.N (λ k. plus (get_or l.fn.sums k nan) l.x (get_or l.taps (l.j + k) nan)) l.fn.sums l.sums l.f
