-- "By BS.1770 (loudness = -0.691 + 10 log10 of energy) boundary i stands at -70 + i/10 and energy i at -69.95 + i/10" (01, port order, step 1).
-- So boundary i is 10^((-70 + i/10 + 0.691) / 10) and energy i is 10^((-69.95 + i/10 + 0.691) / 10): here each is that within one part in 2^40.
-- proofs/Scale.antt computes it.
use Rattle.std.specs.Prelude.{ℕ, ◌+◌, ◌-◌, ◌*◌, ◌^◌, ◌≤◌, ◌<◌, T, Float}
use Rattle.std.specs.Float.Ieee.Positive.{positive, num, den}
use Rattle.bins_tables.specs.Tables.{boundary_at, energy_at}

-- BS.1770's 0.691, in thousandths of a LU
abbrev pub shift : ℕ
shift = 691

-- where entry i stands, in thousandths of a LU above -70 LUFS
abbrev pub boundary_place : ℕ → ℕ
boundary_place i = 100 * i

abbrev pub energy_place : ℕ → ℕ
energy_place i = 50 + 100 * i

-- one part in so many
abbrev pub parts : ℕ
parts = 2 ^ 40

-- the energy x, which is the fraction num x / den x, stands at a place:
--     x (1 - 1/parts)  ≤  10^((-70 + place/1,000 + 0.691) / 10)  ≤  x (1 + 1/parts)
-- The exponent is (place + 691 - 70,000) / 10,000. Each side is raised to the power of 10,000 and cleared of its denominators, so that whole numbers are left.
pub record Stands (x : Float) (place : ℕ) : Type 0 where
  pub sound : T (positive x)
  pub least : (num x * (parts - 1)) ^ 10_000 * 10 ^ 70_000 ≤ (den x * parts) ^ 10_000 * 10 ^ (place + shift)
  pub most : (den x * parts) ^ 10_000 * 10 ^ (place + shift) ≤ (num x * (parts + 1)) ^ 10_000 * 10 ^ 70_000

-- all entries of both tables
pub record OnScale : Type 0 where
  pub boundaries : (i : ℕ) → i < 1_001 → Stands (boundary_at i) (boundary_place i)
  pub energies : (i : ℕ) → i < 1_000 → Stands (energy_at i) (energy_place i)
