-- `search::reading` meets its contract: each refusing test puts the energy off the scale, and past all three it is on it.
-- Assumes nothing.
use mathlib.Core.Path.{◌≡◌, sym, ap, ◌∙◌}
use Prim.Native.Nat.{◌≤◌}
use native.Mathlib.Omega.{arith}
use lib.Ieee.{Float, lt, le}
use lib.IntN.{negsuc, pos, ◌+ℤ◌}
use mir.Syntax.{w32}
use mir.Val.{to_z}
use mir.ValLaws.{to_z-of_z, to_z_pos}
use Rattle.bins.proofs.Readings.{off_scale_lem, on_scale, nan_off, low_off, high_off, none_off, tenth_most, tenths_fit}
use Rattle.bins.proofs.search.reading.Goals as goal
use Rattle.bins.proofs.search.reading.Goals.{After-nearest_tenth-tenth}

pub returns-then-is_nan : goal.returns-then-is_nan
returns-then-is_nan c = let e = c.args.energy in rw (off_scale_lem e (nan_off e (sym c.is_nan.ensures.value ∙ c.if-is_nan.true)))

pub returns-then-energy-lowest_boundary : goal.returns-then-energy-lowest_boundary
returns-then-energy-lowest_boundary c =
    let e = c.args.energy in
    rw (off_scale_lem e (low_off e (ap (lt e) (sym c.lowest_boundary.ensures) ∙ c.if-energy-lowest_boundary.true)))

pub returns-then-energy-highest_boundary : goal.returns-then-energy-highest_boundary
returns-then-energy-highest_boundary c =
    let e = c.args.energy in
    rw (off_scale_lem e (high_off e (ap (λ (b : Float). le b e) (sym c.highest_boundary.ensures) ∙ c.if-energy-highest_boundary.true)))

small : (c : After-nearest_tenth-tenth) → c.nearest_tenth-tenth.result ≤ 1000
small c = rw c.nearest_tenth-tenth.ensures (tenth_most c.args.energy)

pub overflow_cast-result : goal.overflow_cast-result
overflow_cast-result c = record { sfits = omega (arith, small (goal.at.overflow_cast-result c).After-nearest_tenth-tenth) }

signed : (c : After-nearest_tenth-tenth) → to_z w32 c.nearest_tenth-tenth.result ≡ pos c.nearest_tenth-tenth.result
signed c = to_z_pos w32 c.nearest_tenth-tenth.result (omega (arith, small c))

pub overflow_add-result : goal.overflow_add-result
overflow_add-result c = rw (signed (goal.at.overflow_add-result c).After-nearest_tenth-tenth) (tenths_fit c.nearest_tenth-tenth.result (small (goal.at.overflow_add-result c).After-nearest_tenth-tenth))

pub returns : goal.returns
returns c =
    let e = c.args.energy in
    let tenth = c.nearest_tenth-tenth.result in
    rw (
      on_scale e (none_off e (sym c.is_nan.ensures.value ∙ c.if-is_nan.false)
          (ap (lt e) (sym c.lowest_boundary.ensures) ∙ c.if-energy-lowest_boundary.false)
          (ap (λ (b : Float). le b e) (sym c.highest_boundary.ensures) ∙ c.if-energy-highest_boundary.false)),
      signed (goal.at.returns c).After-nearest_tenth-tenth,
      to_z-of_z w32 (negsuc 699 +ℤ pos tenth) (tenths_fit tenth (small (goal.at.returns c).After-nearest_tenth-tenth)),
      ← c.nearest_tenth-tenth.ensures,
    )
