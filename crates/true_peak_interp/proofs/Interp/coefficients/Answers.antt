-- `true_peak_interp::Interp::coefficients` meets its contract: each factor's constant is its table. Assumes nothing.
use borrow.Author.Tests.{eq-eqb, ne_eqb}
use lib.Ieee.{div, of_bits}
use Rattle.true_peak_interp.specs.Taps.{fourfold, twofold}
use Rattle.true_peak_interp.proofs.Interp.coefficients.Goals as goal

pub returns-then-self-eq-FOURFOLD : goal.returns-then-self-eq-FOURFOLD
unfolding fourfold of_bits
returns-then-self-eq-FOURFOLD c = simp (eq-eqb _ _ c.if-self-eq-FOURFOLD.true)

pub returns-then-self-eq-TWOFOLD : goal.returns-then-self-eq-TWOFOLD
unfolding twofold of_bits
returns-then-self-eq-TWOFOLD c = simp (ne_eqb _ _ c.if-self-eq-FOURFOLD.false, eq-eqb _ _ c.if-self-eq-TWOFOLD.true)

pub returns : goal.returns
unfolding div of_bits
returns c = simp (ne_eqb _ _ c.if-self-eq-FOURFOLD.false, ne_eqb _ _ c.if-self-eq-TWOFOLD.false)
