-- Histograms as tables of a number for each bin: an empty one, two added bin by bin, and how many blocks one has. Each law goes up the bins. Assumes nothing.
use mathlib.Core.Path.{◌≡◌, refl, sym, ap, ◌∙◌, subst}
use mathlib.Core.List.{List, ◌∷◌}
use Prim.Native.Nat.{ℕ, zero, suc, ◌+◌, ◌<◌}
use native.Mathlib.Nat.{le_of_suc-le-suc, not-suc-le-zero}
use native.Mathlib.Omega.{arith}
use lib.ListN.{length, get_or, replicate}
use lib.Seq.{ext_get_or}
use Rattle.bins.specs.Bin.{bins}
use Rattle.history_histogram.specs.Histogram.{empty, sums}
use Rattle.range_histograms.specs.Counted.{blocks_in}
use Rattle.acceptance_dealing.specs.Dealing.{table, tally}

-- ---- tables
table_length : (n : ℕ) (f : ℕ → ℕ) → length (table n f) ≡ n
table_length zero f = refl
table_length (suc n) f = ap suc (table_length n (λ k. f (suc k)))

table_at : (n : ℕ) (f : ℕ → ℕ) (i : ℕ) → i < n → get_or (table n f) i 0 ≡ f i
table_at zero f i h = absurd (not-suc-le-zero h)
table_at (suc n) f zero h = refl
table_at (suc n) f (suc i) h = table_at n (λ k. f (suc k)) i (le_of_suc-le-suc h)

table_zero : (n : ℕ) → replicate n 0 ≡ table n (λ i. 0)
table_zero zero = refl
table_zero (suc n) = ap {B = List ℕ} (λ r. 0 ∷ r) (table_zero n)

table_sums : (n : ℕ) (f g : ℕ → ℕ) → sums (table n f) (table n g) ≡ table n (λ i. f i + g i)
table_sums zero f g = refl
table_sums (suc n) f g = ap {B = List ℕ} (λ r. (f zero + g zero) ∷ r) (table_sums n (λ k. f (suc k)) (λ k. g (suc k)))

-- ---- histograms
pub tally_length : (f : ℕ → ℕ) → length (tally f) ≡ bins
unfolding tally
tally_length f = table_length bins f

pub tally_at : (f : ℕ → ℕ) (i : ℕ) → i < bins → get_or (tally f) i 0 ≡ f i
unfolding tally
tally_at f i h = table_at bins f i h

pub tally_empty : empty ≡ tally (λ i. 0)
unfolding tally empty
tally_empty = table_zero bins

pub tally_sums : (f g : ℕ → ℕ) → sums (tally f) (tally g) ≡ tally (λ i. f i + g i)
unfolding tally
tally_sums f g = table_sums bins f g

pub tally_is : (l : List ℕ) (f : ℕ → ℕ) → length l ≡ bins → ((i : ℕ) → i < bins → get_or l i 0 ≡ f i) → l ≡ tally f
tally_is l f e h =
    ext_get_or 0 l (tally f) (e ∙ sym (tally_length f))
    (λ i k. let j : i < bins = subst (λ (m : ℕ). i < m) e k in h i j ∙ sym (tally_at f i j))

pub tally_same : (f g : ℕ → ℕ) → ((i : ℕ) → i < bins → f i ≡ g i) → tally f ≡ tally g
tally_same f g h = tally_is (tally f) g (tally_length f) (λ i k. tally_at f i k ∙ h i k)

-- ---- blocks
blocks_zero : (n : ℕ) → blocks_in (table n (λ i. 0)) ≡ 0
unfolding blocks_in
blocks_zero zero = refl
blocks_zero (suc n) = omega (arith, blocks_zero n)

blocks_sum : (n : ℕ) (f g : ℕ → ℕ) → blocks_in (table n (λ i. f i + g i)) ≡ blocks_in (table n f) + blocks_in (table n g)
unfolding blocks_in
blocks_sum zero f g = refl
blocks_sum (suc n) f g = omega (arith, blocks_sum n (λ k. f (suc k)) (λ k. g (suc k)))

blocks_same : (n : ℕ) (f g : ℕ → ℕ) → ((i : ℕ) → f i ≡ g i) → blocks_in (table n f) ≡ blocks_in (table n g)
unfolding blocks_in
blocks_same zero f g h = refl
blocks_same (suc n) f g h = omega (arith, h 0, blocks_same n (λ k. f (suc k)) (λ k. g (suc k)) (λ i. h (suc i)))

-- one block, in one bin
blocks_one : (n bin : ℕ) (f : ℕ → ℕ) → bin < n → ((i : ℕ) → bin ≡ i → f i ≡ 1) → ((i : ℕ) → (bin ≡ i → ⊥) → f i ≡ 0) → blocks_in (table n f) ≡ 1
unfolding blocks_in
blocks_one zero bin f h here others = absurd (not-suc-le-zero h)
blocks_one (suc n) zero f h here others =
    omega (arith, here 0 refl, blocks_same n (λ k. f (suc k)) (λ k. 0) (λ i. others (suc i) (λ e. omega (arith, e))), blocks_zero n)
blocks_one (suc n) (suc bin) f h here others =
    omega (
      arith,
      others 0 (λ e. omega (arith, e)),
      blocks_one n bin (λ k. f (suc k)) (le_of_suc-le-suc h) (λ i e. here (suc i) (ap suc e)) (λ i e. others (suc i) (λ p. e (omega (arith, p)))),
    )

pub tally_blocks_zero : blocks_in (tally (λ i. 0)) ≡ 0
unfolding tally
tally_blocks_zero = blocks_zero bins

pub tally_blocks_sum : (f g : ℕ → ℕ) → blocks_in (tally (λ i. f i + g i)) ≡ blocks_in (tally f) + blocks_in (tally g)
unfolding tally
tally_blocks_sum f g = blocks_sum bins f g

pub tally_blocks_one : (bin : ℕ) (f : ℕ → ℕ) → bin < bins → ((i : ℕ) → bin ≡ i → f i ≡ 1) → ((i : ℕ) → (bin ≡ i → ⊥) → f i ≡ 0) → blocks_in (tally f) ≡ 1
unfolding tally
tally_blocks_one bin f h here others = blocks_one bins bin f h here others
