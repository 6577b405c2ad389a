-- The reading by its cases: each test that puts an energy off the scale, and the tenths of one that is on it, by its bin and the bin's table energy. The nearest tenth
-- is one of the scale's 1,001. Assumes nothing.
use mathlib.Core.Path.{◌≡◌}
use mathlib.Core.Bool.{Bool, true, false, cond, or-true}
use Prim.Native.Nat.{ℕ, suc, ◌+◌, ◌-◌, ◌≤◌}
use native.Mathlib.Omega.{arith}
use lib.Dec.{ltb}
use lib.IntN.{pos, negsuc, ◌+ℤ◌}
use lib.Ieee.{Float, lt, le, is_nan}
use mir.Syntax.{w32}
use mir.Val.{SFits}
use Rattle.base_refusals.specs.declared.Refusal.TheVariants.{SCALE}
use Rattle.base_refusals.specs.Outcome.{refused, answers}
use Rattle.bins_tables.specs.Tables.{boundary_at, energy_at}
use Rattle.bins.specs.Bin.{bin_of}
use Rattle.bins.specs.Reading.{nearest_tenth, off_scale, reading_of, tenths_of}
use Rattle.bins.proofs.Bins.{bin_below}

module _ (energy : Float) where
  pub off_scale_lem : off_scale energy ≡ true → reading_of energy ≡ refused SCALE
  unfolding reading_of
  off_scale_lem h = rw h

  pub on_scale : off_scale energy ≡ false → reading_of energy ≡ answers (tenths_of energy)
  unfolding reading_of
  on_scale h = rw h

  pub nan_off : is_nan energy ≡ true → off_scale energy ≡ true
  unfolding off_scale
  nan_off h = rw h

  pub low_off : lt energy (boundary_at 0) ≡ true → off_scale energy ≡ true
  unfolding off_scale
  low_off h = rw h (or-true (is_nan energy))

  pub high_off : le (boundary_at 1000) energy ≡ true → off_scale energy ≡ true
  unfolding off_scale
  high_off h = rw (h, or-true (lt energy (boundary_at 0))) (or-true (is_nan energy))

  pub none_off : is_nan energy ≡ false → lt energy (boundary_at 0) ≡ false → le (boundary_at 1000) energy ≡ false → off_scale energy ≡ false
  unfolding off_scale
  none_off h k l = rw (h, k, l)

-- the tenths fit an i32
pub tenths_fit : (bin : ℕ) → bin ≤ 1000 → SFits w32 (negsuc 699 +ℤ pos bin)
tenths_fit bin h = go (ltb bin 700)
  where
    go : (b : Bool) → SFits w32 (cond b (negsuc (700 - suc bin)) (pos (bin - 700)))
    go true = record { sfits = omega arith }
    go false = record { sfits = omega arith }

-- ---- the nearest tenth, by an energy's bin and whether it is below the bin's table energy
pub tenth_of : (x : Float) (bin : ℕ) (below : Bool) → bin_of x ≡ bin → lt x (energy_at bin) ≡ below → nearest_tenth x ≡ cond below bin (bin + 1)
unfolding nearest_tenth
tenth_of x bin below e h = rw (e, h)

pub tenth_most : (x : Float) → nearest_tenth x ≤ 1000
unfolding nearest_tenth
tenth_most x = go (lt x (energy_at (bin_of x)))
  where
    go : (b : Bool) → cond b (bin_of x) (bin_of x + 1) ≤ 1000
    go true = omega (arith, bin_below x)
    go false = omega (arith, bin_below x)
