-- `true_peak_scan::scan` meets its contract: each place of a phase has the peak of its frames, and the largest of them is the peak of all. Assumes nothing.
use Rattle.std.proofs.Common.{List, ◌≡◌, ◌≤◌, ◌+◌, ℕ, ◌<◌, ◌*◌, get_or, min, subst, sym, ap, ◌∙◌, arith}
use Rattle.std.specs.Float.{Float, nan}
use lib.ListN.{length-replicate}
use Rattle.std.proofs.lemmas.List.{get_or-replicate}
use Rattle.true_peak_interp.specs.declared.Interp.{Interp}
use Rattle.true_peak_interp.specs.Phase.{phases_by}
use Rattle.true_peak_scan.specs.Line.{stretch}
use Rattle.true_peak_scan.proofs.Tops.{Top}
use Rattle.true_peak_scan.proofs.Frames.{Lane, Lanes, lane_start, lane_turn, lanes_start, lanes_turn, sizes_by, scanned}
use Rattle.base_floats.specs.Largest.{magnitude, greater}
use Rattle.true_peak_scan.proofs.scan.Goals as goal

-- an array of so few floats has a size
small : (n : ℕ) → n ≤ 48 → n * 4 < 9223372036854775808
small n h = omega arith

pub loop-at-init : goal.loop-at-init
loop-at-init g c =
    let a = c.args in
    let i : Interp = record { factor = g.row.N; taps = g.row.TAPS } in (
      length-replicate g.row.N a.peak,
      λ f h. subst (Top a.peak (Lane (phases_by a.taps.now i) a.line.now g.row.N (sizes_by a.taps.now i a.line.now) f 0)) (sym (get_or-replicate g.row.N f a.peak nan h))
          (lane_start (phases_by a.taps.now i) a.line.now g.row.N (sizes_by a.taps.now i a.line.now) a.peak f),
    )

pub frame-requires : goal.frame-requires
frame-requires g c = (small g.row.N c.requires.few, (omega (arith, c.loop-at-test.true, c.min-at-end.ensures), c.requires))

pub raise-requires : goal.raise-requires
raise-requires g c = small g.row.N c.requires.few

pub loop-at-preserved : goal.loop-at-preserved
loop-at-preserved g c =
    let a = c.args in
    let l = c.loop-at in
    let i : Interp = record { factor = g.row.N; taps = g.row.TAPS } in
    let sizes = sizes_by a.taps.now i a.line.now in (
      c.raise.ensures.size,
      λ f h. subst (Top a.peak (Lane (phases_by a.taps.now i) a.line.now g.row.N sizes f (l.at + 1)))
          (sym (c.raise.ensures.each f h ∙ ap (λ (xs : List Float). greater (get_or l.peaks f nan) (magnitude (get_or xs f nan))) c.frame.ensures))
          (lane_turn (phases_by a.taps.now i) a.line.now g.row.N sizes a.peak f l.at (get_or l.peaks f nan) (l.invariant.1 f h)),
    )

pub offset_bounds-p-items-p-index : goal.offset_bounds-p-items-p-index
offset_bounds-p-items-p-index g c = record { fits = let h = small g.row.N c.requires.few in omega (arith, c.loop-p-test.true) }

pub loop-p-init : goal.loop-p-init
loop-p-init g c = lanes_start _ _ _ _ _ _

pub loop-p-preserved : goal.loop-p-preserved
loop-p-preserved g c =
    let a = c.args in
    let l = c.loop-at in
    let q = c.loop-p in
    let i : Interp = record { factor = g.row.N; taps = g.row.TAPS } in
    let sizes = sizes_by a.taps.now i a.line.now in
    let end : l.at ≡ min a.n stretch = omega (arith, c.loop-at-test.false, l.auto.at-end, c.min-at-end.ensures) in
    subst (Top a.peak (Lanes (phases_by a.taps.now i) a.line.now g.row.N sizes (q.p-index + 1) (min a.n stretch))) (sym c.greater-highest.ensures)
    (lanes_turn (phases_by a.taps.now i) a.line.now g.row.N sizes a.peak q.p-index (min a.n stretch) q.highest (get_or l.peaks q.p-index nan) q.invariant
    (subst (λ (n : ℕ). Top a.peak (Lane (phases_by a.taps.now i) a.line.now g.row.N sizes q.p-index n) (get_or l.peaks q.p-index nan)) end (l.invariant.1 q.p-index c.loop-p-test.true)))

pub returns : goal.returns
returns g c =
    let a = c.args in
    scanned a.taps.now (record { factor = g.row.N; taps = g.row.TAPS }) a.line.now a.peak c.loop-p.p-index (min a.n stretch) c.loop-p.highest (omega arith) c.loop-p.invariant
