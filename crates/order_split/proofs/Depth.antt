-- How many binary digits a number has, by the power of two that it reaches. Assumes nothing.
use mathlib.Core.Path.{◌≡◌, sym, subst}
use Prim.Native.Nat.{ℕ, suc, ◌+◌, ◌*◌, ◌^◌, ◌≤◌, ◌<◌}
use native.Mathlib.Nat.{pow-succ', pow-le-pow_right}
use native.Mathlib.Decide.{dec_lt}
use native.Mathlib.Omega.{arith}
use lib.Ieee.{size}
use lib.Ieee.Digits.{size-lt, size-le}

no_fewer : (n k : ℕ) → 2 ^ k ≤ n → Dec (k < size n) → k < size n
no_fewer n k h (yes more) = more
no_fewer n k h (no few) = absurd (omega (arith, size-lt n, pow-le-pow_right {n = 2} (omega arith) (fewer few)))
  where
    fewer : (k < size n → ⊥) → size n ≤ k
    fewer few = omega arith

pub digits : (n k : ℕ) → 2 ^ k ≤ n → n < 2 * 2 ^ k → size n ≡ k + 1
digits n k h g =
    omega (arith, no_fewer n k h (dec_lt k (size n)), size-le n (suc k) (subst (λ (p : ℕ). n < p) (sym (pow-succ' 2 k)) g))

pub no_digits : size 0 ≡ 0
no_digits = omega (arith, size-le 0 0 (omega arith))
