-- From powers of n to powers of n * n: what a test of small powers says of large ones that nobody computes. Assumes nothing.
use mathlib.Core.Path.{◌≡◌, sym, ◌∙◌}
use Prim.Native.Nat.{ℕ, zero, suc, ◌+◌, ◌*◌, ◌^◌, ◌≤◌, ◌<◌}
use native.Mathlib.Nat.{pow-zero, pow-suc, mul-zero, mul-suc, mul_assoc, mul-mul-mul_comm, add-mul, one-le-pow, pow-le-pow_left, mul-le-mul_left, le_trans, le_of_eq, le_of_mul-le-mul_right}
use lib.Pow.{pow-add}

mul_pow : (a b n : ℕ) → (a * b) ^ n ≡ a ^ n * b ^ n
mul_pow a b zero = rw (pow-zero (a * b), pow-zero a, pow-zero b)
mul_pow a b (suc n) = rw (pow-suc (a * b) n, pow-suc a n, pow-suc b n, mul_pow a b n, mul-mul-mul_comm (a ^ n) (b ^ n) a b)

pow_pow : (a m n : ℕ) → (a ^ m) ^ n ≡ a ^ (m * n)
pow_pow a m zero = rw (pow-zero (a ^ m), mul-zero m, pow-zero a)
pow_pow a m (suc n) = rw (pow-suc (a ^ m) n, mul-suc m n, pow-add a (m * n) m, pow_pow a m n)

-- l / t^k stands for the n-th root of t^r
module _ (t n p r k : ℕ) (t_pos : 0 < t) where
  -- the sides of the test, to the n
  plain : (a : ℕ) → (a ^ n * t ^ (p + k)) ^ n ≡ a ^ (n * n) * t ^ (p * n) * t ^ (k * n)
  plain a =
      mul_pow (a ^ n) (t ^ (p + k)) n
      ∙ rw (pow_pow a n n, pow_pow t (p + k) n, add-mul p k n, pow-add t (p * n) (k * n), mul_assoc (a ^ (n * n)) (t ^ (p * n)) (t ^ (k * n)))

  rooted : (b i l : ℕ) → (b ^ n * (t ^ i * l)) ^ n ≡ b ^ (n * n) * (t ^ (i * n) * l ^ n)
  rooted b i l = rw (mul_pow (b ^ n) (t ^ i * l) n, mul_pow (t ^ i) l n, pow_pow b n n, pow_pow t i n)

  cleared : (b i : ℕ) → b ^ (n * n) * (t ^ (i * n) * t ^ (r + k * n)) ≡ b ^ (n * n) * t ^ (i * n + r) * t ^ (k * n)
  cleared b i =
      rw (pow-add t r (k * n), pow-add t (i * n) r, mul_assoc (b ^ (n * n)) (t ^ (i * n) * t ^ r) (t ^ (k * n)), mul_assoc (t ^ (i * n)) (t ^ r) (t ^ (k * n)))

  pub raise_below : (a b i l : ℕ) → l ^ n ≤ t ^ (r + k * n) → a ^ n * t ^ (p + k) ≤ b ^ n * (t ^ i * l)
      → a ^ (n * n) * t ^ (p * n) ≤ b ^ (n * n) * t ^ (i * n + r)
  raise_below a b i l root test =
      le_of_mul-le-mul_right
      (le_trans (le_of_eq (sym (plain a))) (le_trans (pow-le-pow_left test n) (le_trans (le_of_eq (rooted b i l))
      (le_trans (mul-le-mul_left (b ^ (n * n)) (mul-le-mul_left (t ^ (i * n)) root)) (le_of_eq (cleared b i))))))
      (one-le-pow (k * n) t t_pos)

  pub raise_above : (a b i l : ℕ) → t ^ (r + k * n) ≤ l ^ n → b ^ n * (t ^ i * l) ≤ a ^ n * t ^ (p + k)
      → b ^ (n * n) * t ^ (i * n + r) ≤ a ^ (n * n) * t ^ (p * n)
  raise_above a b i l root test =
      le_of_mul-le-mul_right
      (le_trans (le_of_eq (sym (cleared b i))) (le_trans (mul-le-mul_left (b ^ (n * n)) (mul-le-mul_left (t ^ (i * n)) root))
      (le_trans (le_of_eq (sym (rooted b i l))) (le_trans (pow-le-pow_left test n) (le_of_eq (plain a))))))
      (one-le-pow (k * n) t t_pos)
