-- `range_histograms::float` meets its contract: so few blocks are the same number with a sign, and a float exactly. Assumes nothing.
use mathlib.Core.Path.{◌≡◌, sym, ap, subst}
use Prim.Native.Nat.{ℕ, ◌≤◌}
use native.Mathlib.Omega.{arith}
use lib.Dec.{T}
use lib.IntN.{ℤ, pos}
use lib.Ieee.{binary64, in_float, of_int}
use mir.Syntax.{w64}
use mir.Val.{SFits, to_z}
use mir.ValLaws.{to_z-of_z}
use Rattle.range_histograms.specs.Counted.{most_in_bin}
use Rattle.range_histograms.proofs.Counting.{few_in_float}
use Rattle.range_histograms.proofs.float.Goals as goal

fits : (blocks : ℕ) → blocks ≤ most_in_bin → SFits w64 (pos blocks)
fits blocks h = record { sfits = omega (arith, h) }

signed : (blocks : ℕ) → blocks ≤ most_in_bin → to_z w64 blocks ≡ pos blocks
signed blocks h = to_z-of_z w64 (pos blocks) (fits blocks h)

pub overflow_cast-result : goal.overflow_cast-result
overflow_cast-result c = fits c.args.blocks c.requires

pub int_to_float-result : goal.int_to_float-result
int_to_float-result c =
    let s = c in
    subst (λ (z : ℤ). T (in_float binary64 z)) (sym (signed s.args.blocks s.requires)) (few_in_float s.args.blocks s.requires)

pub returns : goal.returns
returns c = let s = c in ap (of_int binary64) (signed s.args.blocks s.requires)
