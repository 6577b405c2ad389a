-- `true_peak_scan::raise` meets its contract: each peak is raised by its own phase. Assumes nothing.
use Rattle.std.proofs.Common.{get_or, refl, ap, ◌∙◌, ◌≡◌, false, arith}
use Rattle.std.specs.Float.{Float, nan, inf, fin, float_with_sign}
use Rattle.base_floats.specs.Largest.{magnitude, greater}
use Rattle.true_peak_scan.proofs.Changed.{changed_start, changed_turn, changed_end}
use Rattle.true_peak_scan.proofs.raise.Goals as goal

size : (x : Float) → float_with_sign false x ≡ magnitude x
unfolding float_with_sign
size nan = refl
size (inf s) = refl
size (fin s m e) = refl

pub loop-f-init : goal.loop-f-init
loop-f-init g c = changed_start _ _ _ c.told-peaks

pub loop-f-preserved : goal.loop-f-preserved
loop-f-preserved g c =
    let a = c.args in
    let l = c.loop-f in
    changed_turn _ _ _ l.peaks l.f _ c.loop-f-test.true
    (c.greater.ensures
    ∙ ap (greater (get_or l.peaks l.f nan)) (c.abs.ensures.value ∙ size (get_or a.phases.now l.f nan))
    ∙ ap (λ (p : Float). greater p (magnitude (get_or a.phases.now l.f nan))) (l.invariant.kept l.f (omega arith)))
    l.invariant

pub returns : goal.returns
returns g c = record { size = c.loop-f.invariant.size; each = changed_end _ _ _ _ _ c.loop-f-test.false c.loop-f.invariant }
