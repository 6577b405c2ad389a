-- `true_peak_scan::carry_on` meets its contract: each sum is carried on by its own tap. Assumes nothing.
use Rattle.std.proofs.Common.{◌+◌, get_or, ap, arith}
use Rattle.std.specs.Float.{Float, nan}
use Rattle.true_peak_interp.specs.Phase.{plus}
use Rattle.true_peak_scan.proofs.Changed.{changed_start, changed_turn, changed_end}
use Rattle.true_peak_scan.proofs.carry_on.Goals as goal

pub loop-f-init : goal.loop-f-init
loop-f-init g c = changed_start _ _ _ c.told-sums

pub loop-f-preserved : goal.loop-f-preserved
loop-f-preserved g c =
    let a = c.args in
    let l = c.loop-f in
    changed_turn _ _ _ l.sums l.f _ c.loop-f-test.true (ap (λ (s : Float). plus s a.x (get_or a.taps.now (a.j + l.f) nan)) (l.invariant.kept l.f (omega arith))) l.invariant

pub returns : goal.returns
returns g c = record { size = c.loop-f.invariant.size; each = changed_end _ _ _ _ _ c.loop-f-test.false c.loop-f.invariant }
