-- The scan for a bin: what holds at a place that it has come to, that a turn keeps it, and that the place before the one where it stops is the bin.
-- Boundaries rise, so after the first that is above the energy each is. Assumes nothing.
use mathlib.Core.Path.{◌≡◌, refl, sym, ap, ◌∙◌, subst}
use mathlib.Core.Logic.{◌⊎◌, inl, inr}
use mathlib.Core.Bool.{true, false}
use Prim.Native.Nat.{ℕ, ◌+◌, ◌-◌, ◌≤◌, ◌<◌}
use native.Mathlib.Omega.{arith}
use lib.Dec.{T}
use lib.Ieee.{Float, lt, le, is_nan}
use Rattle.base_floats.proofs.Order.{is_true, is_false, lt_not_le, total, left_number}
use Rattle.bins_tables.specs.Tables.{boundary_at, energy_at}
use Rattle.bins_tables.proofs.Rules.{boundary_below_energy}
use Rattle.bins.specs.Bin.{bin_of}
use Rattle.bins.proofs.Bins.{last_is, later_above}

-- the scan has come to a place from 1 to 1000: the boundary before it is not above x, or is boundary 0, at which it does not look
pub record Scanned (x : Float) (place : ℕ) : Type 0 where
  pub begun : 1 ≤ place
  pub within : place ≤ 1000
  pub passed : (place - 1 ≡ 0) ⊎ (le (boundary_at (place - 1)) x ≡ true)

pub start : (x : Float) → Scanned x 1
start x = record { begun = omega arith; within = omega arith; passed = inl refl }

module _ {x : Float} {place : ℕ} (s : Scanned x place) where
  -- a number that the boundary here is not above has reached it
  pub go_on : is_nan x ≡ false → place < 1000 → lt x (boundary_at place) ≡ false → Scanned x (place + 1)
  go_on number h p = record {
    begun = omega arith;
    within = omega arith;
    passed = inr (subst (λ (k : ℕ). le (boundary_at k) x ≡ true) {x = place} {y = place + 1 - 1} (omega arith) (is_true (le (boundary_at place) x) reached));
  }
    where
      reached : T (le (boundary_at place) x)
      reached = total x (boundary_at place) number (left_number (boundary_at place) (energy_at place) (boundary_below_energy place h)) p

  -- the place that is handed out is not 0, and the one before it is the bin where no boundary from it on has been reached
  stop : (n : ℕ) → n ≡ place → ((k : ℕ) → place ≤ k → k < 1000 → le (boundary_at k) x ≡ false) → (1 ≤ n) × (n - 1 ≡ bin_of x)
  unfolding bin_of
  stop n e above = (
    omega (arith, e, s.begun),
    ap (λ (k : ℕ). k - 1) e ∙ sym (last_is x 1000 (place - 1) (omega (arith, s.begun, s.within)) s.passed (λ k a b. above k (omega (arith, s.begun)) b)),
  )

  pub stop_above : (n : ℕ) → n ≡ place → lt x (boundary_at place) ≡ true → (1 ≤ n) × (n - 1 ≡ bin_of x)
  stop_above n e p =
      stop n e
      (λ k a b. is_false (le (boundary_at k) x) (later_above x place k a (omega arith) (lt_not_le x (boundary_at place) (subst T (sym p) tt))))

  pub stop_at_end : (n : ℕ) → n ≡ place → place ≡ 1000 → (1 ≤ n) × (n - 1 ≡ bin_of x)
  stop_at_end n e end = stop n e (λ k a b. absurd (omega (arith, end)))
