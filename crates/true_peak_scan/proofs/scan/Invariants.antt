use Rattle.std.proofs.Common.{◌≡◌, ℕ, ◌<◌, length, get_or, min}
use Rattle.std.specs.Float.{nan}
use Rattle.true_peak_interp.specs.declared.Interp.{Interp}
use Rattle.true_peak_interp.specs.Phase.{phases_by}
use Rattle.true_peak_scan.specs.Line.{stretch}
use Rattle.true_peak_scan.proofs.Tops.{Top}
use Rattle.true_peak_scan.proofs.Frames.{Lane, Lanes, sizes_by}
use Rattle.true_peak_scan.proofs.scan.Given as goal

abbrev pub invariant-loop-at : goal.invariant-loop-at
invariant-loop-at g l =
    let i : Interp = record { factor = g.row.N; taps = g.row.TAPS } in
    (length l.peaks ≡ g.row.N) × ((f : ℕ) → f < g.row.N → Top l.peak (Lane (phases_by l.taps i) l.line g.row.N (sizes_by l.taps i l.line) f l.at) (get_or l.peaks f nan))

abbrev pub invariant-loop-p : goal.invariant-loop-p
invariant-loop-p g l =
    let i : Interp = record { factor = g.row.N; taps = g.row.TAPS } in
    Top l.peak (Lanes (phases_by l.taps i) l.line g.row.N (sizes_by l.taps i l.line) l.p-index (min l.n stretch)) l.highest
