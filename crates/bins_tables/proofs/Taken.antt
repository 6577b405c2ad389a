-- An entry of a table that was taken is the table's. Assumes nothing.
use mathlib.Core.Path.{◌≡◌, ap}
use mathlib.Core.List.{List}
use Prim.Native.Nat.{ℕ}
use lib.ListN.{get_or}
use lib.Ieee.{Float, nan}
use Rattle.bins_tables.specs.Tables.{boundaries, energies, boundary_at, energy_at}

module _ (taken : List Float) (i : ℕ) where
  pub energy_entry : taken ≡ energies → get_or taken i nan ≡ energy_at i
  unfolding energy_at
  energy_entry e = ap (λ (l : List Float). get_or l i nan) e

  pub boundary_entry : taken ≡ boundaries → get_or taken i nan ≡ boundary_at i
  unfolding boundary_at
  boundary_entry e = ap (λ (l : List Float). get_or l i nan) e
