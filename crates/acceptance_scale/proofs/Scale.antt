-- Both tables stand on BS.1770's scale: one computed test of hundredth powers over each table, then raised to the hundred. Assumes nothing.
use mathlib.Core.Path.{◌≡◌, sym, subst}
use mathlib.Core.Bool.{Bool, true, false, ◌&&◌}
use mathlib.Core.List.{List, [], ◌∷◌}
use Prim.Native.Nat.{ℕ, zero, suc, ◌+◌, ◌-◌, ◌*◌, ◌^◌, ◌≤◌, ◌<◌}
use native.Mathlib.Nat.{le_of_suc-le-suc, not-suc-le-zero, zero-add, add-zero, add-suc, suc-add}
use native.Mathlib.Omega.{arith}
use lib.Dec.{T, leb, leb→le}
use lib.ListN.{length, get_or}
use lib.Ieee.{Float, nan, of_bits}
use lib.Ieee.Fits.{and_l, and_r}
use lib.Ieee.Positive.{positive, num, den}
use Rattle.bins_tables.specs.Tables.{boundaries, energies, boundary_bits, energy_bits, boundary_at, energy_at}
use Rattle.bins_tables.proofs.Rules.{boundaries_length, energies_length, boundary_positive, energy_positive}
use Rattle.acceptance_scale.specs.Scale.{shift, boundary_place, energy_place, parts, Stands, OnScale}
use Rattle.acceptance_scale.proofs.Powers.{raise_below, raise_above}

-- ---- 10^(r/100) lies between root / 10^20 and (1 + root) / 10^20: the root, bit by bit from the top
root_from : ℕ → ℕ → ℕ → ℕ
root_from n found zero = found
root_from n found (suc bits) = elim (leb ((found + 2 ^ bits) ^ 100) n) [ true ↦ root_from n (found + 2 ^ bits) bits | false ↦ root_from n found bits ]

root_of : ℕ → ℕ
root_of r = root_from (10 ^ (r + 2_000)) 0 100

-- ---- the test of entry i: the hundredth powers of x (1 - 1/parts) and x (1 + 1/parts) against 10^(i - 700) root / 10^20
low : ℕ → ℕ → Float → Bool
low root i x = leb ((num x * (parts - 1)) ^ 100 * 10 ^ 720) ((den x * parts) ^ 100 * (10 ^ i * root))

high : ℕ → ℕ → Float → Bool
high root i x = leb ((den x * parts) ^ 100 * (10 ^ i * root)) ((num x * (parts + 1)) ^ 100 * 10 ^ 720)

test : ℕ → ℕ → Float → Bool
test root i x = low root i x && high (suc root) i x

-- ---- the test of a table, from entry i on
tests : ℕ → ℕ → List Float → Bool
tests root i [] = true
tests root i (x ∷ xs) = test root i x && tests root (suc i) xs

at : (root i : ℕ) (xs : List Float) → T (tests root i xs) → (k : ℕ) → k < length xs → T (test root (i + k) (get_or xs k nan))
unfolding tests
at root i [] t k h = absurd (not-suc-le-zero h)
at root i (x ∷ xs) t zero h = rw add-zero (and_l (test root i x) (tests root (suc i) xs) t)
at root i (x ∷ xs) t (suc k) h =
    rw (add-suc i k, ← suc-add i k) (at root (suc i) xs (and_r (test root i x) (tests root (suc i) xs) t) k (le_of_suc-le-suc h))

-- ---- from the test to the statement
module _ (root r : ℕ) (under : T (leb (root ^ 100) (10 ^ (r + 2_000)))) (over : T (leb (10 ^ (r + 2_000)) (suc root ^ 100))) where
  stands : (i : ℕ) (x : Float) → T (positive x) → T (test root i x) → (place : ℕ) → place + shift ≡ i * 100 + r → Stands x place
  unfolding test low high
  stands i x p t place e = record {
    sound = p;
    least = subst (λ (n : ℕ). (num x * (parts - 1)) ^ 10_000 * 10 ^ 70_000 ≤ (den x * parts) ^ 10_000 * 10 ^ n) (sym e)
        (raise_below 10 100 700 r 20 (omega arith) (num x * (parts - 1)) (den x * parts) i root (leb→le (root ^ 100) (10 ^ (r + 2_000)) under)
        (leb→le ((num x * (parts - 1)) ^ 100 * 10 ^ 720) ((den x * parts) ^ 100 * (10 ^ i * root)) (and_l (low root i x) (high (suc root) i x) t)));
    most = subst (λ (n : ℕ). (den x * parts) ^ 10_000 * 10 ^ n ≤ (num x * (parts + 1)) ^ 10_000 * 10 ^ 70_000) (sym e)
        (raise_above 10 100 700 r 20 (omega arith) (num x * (parts + 1)) (den x * parts) i (suc root) (leb→le (10 ^ (r + 2_000)) (suc root ^ 100) over)
        (leb→le ((den x * parts) ^ 100 * (10 ^ i * suc root)) ((num x * (parts + 1)) ^ 100 * 10 ^ 720) (and_r (low root i x) (high (suc root) i x) t)));
  }

-- ---- the two tables
boundary_root : ℕ
boundary_root = root_of (boundary_place 0 + shift)

energy_root : ℕ
energy_root = root_of (energy_place 0 + shift)

boundaries_tested : T (tests boundary_root 0 boundaries)
unfolding boundaries boundary_bits of_bits tests test low high boundary_root root_of root_from
boundaries_tested = tt

energies_tested : T (tests energy_root 0 energies)
unfolding energies energy_bits of_bits tests test low high energy_root root_of root_from
energies_tested = tt

boundary_stands : (i : ℕ) → i < 1_001 → Stands (boundary_at i) (boundary_place i)
unfolding boundary_at boundary_root root_of root_from
boundary_stands i h =
    stands boundary_root (boundary_place 0 + shift) tt tt i (boundary_at i) (boundary_positive i h)
    (rw zero-add at (at boundary_root 0 boundaries boundaries_tested i (omega (arith, boundaries_length)))) (boundary_place i) (omega arith)

energy_stands : (i : ℕ) → i < 1_000 → Stands (energy_at i) (energy_place i)
unfolding energy_at energy_root root_of root_from
energy_stands i h =
    stands energy_root (energy_place 0 + shift) tt tt i (energy_at i) (energy_positive i h)
    (rw zero-add at (at energy_root 0 energies energies_tested i (omega (arith, energies_length)))) (energy_place i) (omega arith)

pub on_scale : OnScale
on_scale = record { boundaries = boundary_stands; energies = energy_stands }
