-- A halving search for a bin, as the search was before it was a scan: what `min` and `max` bracket, that a turn keeps the bracket and makes it smaller,
-- and that a bracket of one bin is the bin. Assumes nothing.
use mathlib.Core.Path.{◌≡◌, refl, sym, ap, ◌∙◌, subst}
use mathlib.Core.Logic.{◌⊎◌, inl, inr}
use mathlib.Core.Bool.{true, false}
use Prim.Native.Nat.{ℕ, ◌+◌, ◌-◌, ◌/◌, ◌≤◌, ◌<◌}
use native.Mathlib.Omega.{arith}
use lib.Dec.{T}
use lib.Ieee.{Float, le}
use Rattle.base_floats.proofs.Order.{is_false}
use Rattle.bins_tables.specs.Tables.{boundary_at}
use Rattle.bins.specs.Bin.{bin_of}
use Rattle.bins.proofs.Bins.{last_is, later_above}

-- the boundary `min` is not above x, or min is 0; each boundary from `max` on is above x
pub record Bracket (x : Float) (min max : ℕ) : Type 0 where
  pub ordered : min < max
  pub within : max ≤ 1000
  pub low : (min ≡ 0) ⊎ (le (boundary_at min) x ≡ true)
  pub high : (k : ℕ) → max ≤ k → k < 1000 → le (boundary_at k) x ≡ false

pub start : (x : Float) → Bracket x 0 1000
start x = record { ordered = omega arith; within = omega arith; low = inl refl; high = λ k a b. absurd (omega arith) }

module _ {x : Float} {min max : ℕ} (b : Bracket x min max) where
  up : (m : ℕ) → m < max → le (boundary_at m) x ≡ true → Bracket x m max
  up m h p = record { ordered = h; within = b.within; low = inr p; high = b.high }

  down : (m : ℕ) → min < m → m < max → le (boundary_at m) x ≡ false → Bracket x min m
  down m h g p = record {
    ordered = h;
    within = omega (arith, b.within);
    low = b.low;
    high = λ k a c. is_false (le (boundary_at k) x) (later_above x m k a (omega arith) (λ t. subst T p t));
  }

  pub done : max - min ≡ 1 → min ≡ bin_of x
  unfolding bin_of
  done e = sym (last_is x 1000 min (omega (arith, b.ordered, b.within)) b.low (λ k a c. b.high k (omega (arith, b.ordered)) c))

-- a turn: the boundary r at the midpoint settles one half, and what is left is smaller
module _ {x : Float} {min max : ℕ} (b : Bracket x min max) (gap : min + 2 ≤ max) (r : Float) (e : r ≡ boundary_at ((min + max) / 2)) where
  pub turn_up : (lo hi : ℕ) → le r x ≡ true → lo ≡ (min + max) / 2 → hi ≡ max → Bracket x lo hi × (hi - lo < max - min)
  turn_up lo hi p q s = (
    subst (λ (n : ℕ). Bracket x n hi) (sym q)
        (subst (λ (n : ℕ). Bracket x ((min + max) / 2) n) (sym s) (up b ((min + max) / 2) (omega arith) (ap (λ (y : Float). le y x) (sym e) ∙ p))),
    omega arith,
  )

  pub turn_down : (lo hi : ℕ) → le r x ≡ false → lo ≡ min → hi ≡ (min + max) / 2 → Bracket x lo hi × (hi - lo < max - min)
  turn_down lo hi p q s = (
    subst (λ (n : ℕ). Bracket x n hi) (sym q)
        (subst (λ (n : ℕ). Bracket x min n) (sym s) (down b ((min + max) / 2) (omega arith) (omega arith) (ap (λ (y : Float). le y x) (sym e) ∙ p))),
    omega arith,
  )
