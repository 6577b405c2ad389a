-- `true_peak::Kernel::scan` meets its contract: the factor tells the two interpolators apart, and the taps are its coefficients. Assumes nothing.
use Rattle.std.proofs.Common.{◌≡◌, ℕ, min, ◌≤◌, List, sym, ap, ◌∙◌}
use native.Mathlib.Nat.{min-eq_left}
use lib.Ieee.{Float}
use Rattle.true_peak_interp.specs.declared.Interp.{Interp}
use Rattle.true_peak_interp.specs.Interp.{fourfold, twofold}
use Rattle.true_peak_interp.specs.Phase.{coefficients, phases, phases_by}
use Rattle.base_floats.specs.Largest.{largest}
use Rattle.true_peak_scan.specs.Line.{stretch, phases_over}
use Rattle.true_peak.proofs.Kernel.scan.Goals as goal

told : (factor taps : ℕ) (i : Interp) → i.factor ≡ factor → i.taps ≡ taps → record { factor = factor; taps = taps } ≡ i
told factor taps i e h = ap (λ (n : ℕ). record { factor = n; taps = taps }) (sym e) ∙ ap (λ (n : ℕ). record { factor = i.factor; taps = n }) (sym h)

-- a scan by a table of an interpolator's own coefficients is a scan by its phases
own_taps : (k i : Interp) → k ≡ i → (taps line : List Float) (n : ℕ) (peak r : Float) → taps ≡ coefficients i.factor → n ≤ stretch
    → r ≡ largest peak (phases_over (phases_by taps k) line 0 (min n stretch)) → r ≡ largest peak (phases_over (phases i) line 0 n)
own_taps k i e taps line n peak r t h f =
    f
    ∙ ap (λ (m : ℕ). largest peak (phases_over (phases_by taps k) line 0 m)) (min-eq_left h)
    ∙ ap (λ (q : List Float). largest peak (phases_over (phases_by q k) line 0 n)) t
    ∙ ap (λ (j : Interp). largest peak (phases_over (phases_by (coefficients i.factor) j) line 0 n)) e

pub returns-then-self-eq-FOURFOLD : goal.returns-then-self-eq-FOURFOLD
returns-then-self-eq-FOURFOLD c =
    let a = c.args in
    let k = a.self.now in
    let four = c.if-self-eq-FOURFOLD.true in
    own_taps fourfold k.i (told 4 12 k.i four (k.known.0 four)) k.taps a.line.now a.n a.peak c.scan_fourfold.result k.own c.requires c.scan_fourfold.ensures

pub returns : goal.returns
returns c =
    let a = c.args in
    let k = a.self.now in
    let two = k.known.1 c.if-self-eq-FOURFOLD.false in
    own_taps twofold k.i (told 2 24 k.i two.0 two.1) k.taps a.line.now a.n a.peak c.scan_twofold.result k.own c.requires c.scan_twofold.ensures
