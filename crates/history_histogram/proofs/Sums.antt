-- Counters added bin by bin, in a loop: the first n are sums, and the others as they were. Each turn goes on from one counter to the next, so that
-- what has been added is known by recursion on the counters. Assumes nothing.
use mathlib.Core.Path.{◌≡◌, refl, sym, ap, ◌∙◌}
use mathlib.Core.List.{List, [], ◌∷◌}
use Prim.Native.Nat.{ℕ, zero, suc, ◌+◌, ◌≤◌, ◌<◌}
use native.Mathlib.Nat.{le_of_suc-le-suc, not-suc-le-zero, suc_inj}
use native.Mathlib.Numerals.{add-one}
use native.Mathlib.Omega.{arith}
use lib.ListN.{length, get_or, set}
use Rattle.history_histogram.specs.Histogram.{sums}

abbrev pub sums_first : ℕ → List ℕ → List ℕ → List ℕ
sums_first zero into from = into
sums_first (suc n) [] from = []
sums_first (suc n) (x ∷ into) [] = x ∷ into
sums_first (suc n) (x ∷ into) (y ∷ from) = (x + y) ∷ sums_first n into from

next_as_was : (n : ℕ) (into from : List ℕ) → length into ≡ length from → get_or (sums_first n into from) n 0 ≡ get_or into n 0
next_as_was zero into from e = refl
next_as_was (suc n) [] from e = refl
next_as_was (suc n) (x ∷ into) [] e = refl
next_as_was (suc n) (x ∷ into) (y ∷ from) e = next_as_was n into from (suc_inj e)

one_more_lem : (n : ℕ) (into from : List ℕ) → n < length into → length into ≡ length from
    → set (sums_first n into from) n (get_or into n 0 + get_or from n 0) ≡ sums_first (suc n) into from
one_more_lem n [] from h e = absurd (not-suc-le-zero h)
one_more_lem zero (x ∷ into) [] h e = absurd (omega (arith, e))
one_more_lem (suc n) (x ∷ into) [] h e = absurd (omega (arith, e))
one_more_lem zero (x ∷ into) (y ∷ from) h e = refl
one_more_lem (suc n) (x ∷ into) (y ∷ from) h e =
    ap {B = List ℕ} (λ r. (x + y) ∷ r) (one_more_lem n into from (le_of_suc-le-suc h) (suc_inj e))

pub sums_all : (n : ℕ) (into from : List ℕ) → length into ≤ n → sums_first n into from ≡ sums into from
sums_all zero [] from h = refl
sums_all zero (x ∷ into) from h = absurd (not-suc-le-zero h)
sums_all (suc n) [] from h = refl
sums_all (suc n) (x ∷ into) [] h = refl
sums_all (suc n) (x ∷ into) (y ∷ from) h = ap {B = List ℕ} (λ r. (x + y) ∷ r) (sums_all n into from (le_of_suc-le-suc h))

-- a turn reads a counter that is as it was, and writes its sum
module _ (n : ℕ) (into from now : List ℕ) (e : now ≡ sums_first n into from) (g : length into ≡ length from) where
  pub sums_read : get_or now n 0 ≡ get_or into n 0
  sums_read = ap (λ (l : List ℕ). get_or l n 0) e ∙ next_as_was n into from g

  pub sums_turn : n < length into → set now n (get_or now n 0 + get_or from n 0) ≡ sums_first (n + 1) into from
  sums_turn h =
      ap (λ (k : ℕ). set now n (k + get_or from n 0)) sums_read
      ∙ ap (λ (l : List ℕ). set l n (get_or into n 0 + get_or from n 0)) e
      ∙ one_more_lem n into from h g
      ∙ ap (λ (k : ℕ). sums_first k into from) (sym (add-one n))
