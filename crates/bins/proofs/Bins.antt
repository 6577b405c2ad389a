-- The laws of the bin of an energy, for every crate above: it is below 1,000; it rises with the energy; an energy between two boundaries is in that bin,
-- so boundary i and energy i are in bin i; NaN goes to bin 0 and infinity to bin 999.
-- Every law comes from `last_is`: the bin is the one place whose boundary is not above the energy while each later one is. Assumes nothing.
use mathlib.Core.Path.{◌≡◌, refl, sym, ap, ◌∙◌, subst}
use mathlib.Core.Logic.{◌⊎◌, inl, inr}
use mathlib.Core.Bool.{Bool, true, false, cond, true≢false}
use Prim.Native.Nat.{ℕ, zero, suc, ◌+◌, ◌≤◌, ◌<◌}
use native.Mathlib.Nat.{le_of_suc-le-suc, not-suc-le-zero, eq-or-lt_of_le, lt-suc_self}
use native.Mathlib.Omega.{arith}
use lib.Dec.{T}
use lib.Ieee.{Float, nan, le, lt}
use Rattle.base_floats.proofs.Order.{is_true, is_false, float_le_trans, lt→le, lt_not_le, le_nan}
use Rattle.bins_tables.specs.Tables.{boundary_at, energy_at}
use Rattle.bins.specs.Bin.{last_not_above, bin_of}
use Rattle.bins_tables.proofs.Rules.{boundaries_rise, boundary_below_energy, energy_below_next}

-- r is the last of the first n bins whose boundary is not above x, or 0
pub last_is : (x : Float) (n r : ℕ) → r < n → (r ≡ 0) ⊎ (le (boundary_at r) x ≡ true)
    → ((k : ℕ) → r < k → k < n → le (boundary_at k) x ≡ false) → last_not_above x n ≡ r
unfolding last_not_above
last_is x zero r h g f = absurd (not-suc-le-zero h)
last_is x (suc n) r h g f = elim (eq-or-lt_of_le (le_of_suc-le-suc h)) [
  | inl e ↦ here e (le (boundary_at n) x) refl g
  | inr l ↦ ap (λ (b : Bool). cond b n (last_not_above x n)) (f n l (lt-suc_self n)) ∙ last_is x n r l g (λ k a b. f k a (omega arith))
]
  where
    here : r ≡ n → (b : Bool) → le (boundary_at n) x ≡ b → (r ≡ 0) ⊎ (le (boundary_at r) x ≡ true) → cond b n (last_not_above x n) ≡ r
    here e true p g = sym e
    here e false p (inl z) = ap (last_not_above x) (sym e ∙ z) ∙ sym z
    here e false p (inr t) = absurd (true≢false (sym t ∙ ap (λ (k : ℕ). le (boundary_at k) x) e ∙ p))

-- where the boundary m is above x, each later one is
pub later_above : (x : Float) (m k : ℕ) → m ≤ k → k < 1001 → (T (le (boundary_at m) x) → ⊥) → T (le (boundary_at k) x) → ⊥
later_above x m k h l p q = p (float_le_trans (boundary_at m) (boundary_at k) x (boundaries_rise m k h l) q)

last_below : (x : Float) (n : ℕ) → last_not_above x (suc n) < suc n
unfolding last_not_above
last_below x zero = go (le (boundary_at 0) x)
  where
    go : (b : Bool) → cond b 0 0 < 1
    go true = omega arith
    go false = omega arith
last_below x (suc n) = go (le (boundary_at (suc n)) x) (last_below x n)
  where
    go : (b : Bool) → last_not_above x (suc n) < suc n → cond b (suc n) (last_not_above x (suc n)) < suc (suc n)
    go true h = omega arith
    go false h = omega arith

pub bin_below : (x : Float) → bin_of x < 1000
unfolding bin_of
bin_below x = last_below x 999

-- ---- bins rise with energies
last_rises : (x y : Float) → T (le x y) → (n : ℕ) → last_not_above x (suc n) ≤ last_not_above y (suc n)
unfolding last_not_above
last_rises x y h zero = go (le (boundary_at 0) x) (le (boundary_at 0) y)
  where
    go : (b d : Bool) → cond b 0 0 ≤ cond d 0 0
    go true true = omega arith
    go true false = omega arith
    go false true = omega arith
    go false false = omega arith
last_rises x y h (suc n) = go (le (boundary_at (suc n)) x) (le (boundary_at (suc n)) y) refl refl (last_rises x y h n)
  where
    go : (b d : Bool) → le (boundary_at (suc n)) x ≡ b → le (boundary_at (suc n)) y ≡ d → last_not_above x (suc n) ≤ last_not_above y (suc n)
        → cond b (suc n) (last_not_above x (suc n)) ≤ cond d (suc n) (last_not_above y (suc n))
    go true true p q r = omega arith
    go true false p q r = absurd (subst T q (float_le_trans (boundary_at (suc n)) x y (subst T (sym p) tt) h))
    go false true p q r = omega (arith, last_below x n)
    go false false p q r = r

pub bins_rise : (x y : Float) → T (le x y) → bin_of x ≤ bin_of y
unfolding bin_of
bins_rise x y h = last_rises x y h 999

-- ---- the bin of an energy that reaches boundary i and no later one
pub bin_is : (x : Float) (i : ℕ) → i < 1000 → T (le (boundary_at i) x) → ((k : ℕ) → i < k → k < 1000 → T (le (boundary_at k) x) → ⊥) → bin_of x ≡ i
unfolding bin_of
bin_is x i h p q = last_is x 1000 i h (inr (is_true (le (boundary_at i) x) p)) (λ k a b. is_false (le (boundary_at k) x) (q k a b))

pub bin_between : (x : Float) (i : ℕ) → i < 1000 → T (le (boundary_at i) x) → T (lt x (boundary_at (1 + i))) → bin_of x ≡ i
bin_between x i h p q =
    bin_is x i h p (λ k a b. later_above x (1 + i) k (omega arith) (omega arith) (lt_not_le x (boundary_at (1 + i)) q))

pub bin_of_energy : (i : ℕ) → i < 1000 → bin_of (energy_at i) ≡ i
bin_of_energy i h = bin_between (energy_at i) i h (lt→le (boundary_at i) (energy_at i) (boundary_below_energy i h)) (energy_below_next i h)

pub bin_of_nan : bin_of nan ≡ 0
unfolding bin_of
bin_of_nan = last_is nan 1000 0 (omega arith) (inl refl) (λ k a b. le_nan (boundary_at k))
