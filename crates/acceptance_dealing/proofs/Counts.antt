-- How many energies 01 puts in a bin, over lists that are joined or reordered, and over all bins together: those that are not dropped. Assumes nothing.
use mathlib.Core.Path.{◌≡◌, refl, sym, ap, ◌∙◌}
use mathlib.Core.Bool.{Bool, true, false, not, ◌&&◌, cond}
use mathlib.Core.List.{List, [], ◌∷◌, ◌++◌}
use Prim.Native.Nat.{ℕ, suc, ◌+◌, ◌-◌}
use native.Mathlib.Nat.{zero-add, add_assoc}
use native.Mathlib.Omega.{arith}
use borrow.Author.Tests.{eq-eqb, ne_eqb}
use lib.Dec.{eqb}
use lib.ListN.{length}
use lib.Ieee.{Float}
use Rattle.bins.specs.Bin.{bin_of}
use Rattle.bins.proofs.Bins.{bin_below}
use Rattle.bins.specs.Energy.{dropped}
use Rattle.order_rules.specs.Arrangement.{Reordered, unmoved, under, swap, after}
use Rattle.range_histograms.specs.Counted.{blocks_in}
use Rattle.acceptance_dealing.specs.Dealing.{count_in, is_in, tally, counters_of, dropped_of, in_one_run}
use Rattle.acceptance_dealing.proofs.Tallies.{tally_blocks_zero, tally_blocks_sum, tally_blocks_one, tally_same}

-- one energy's share of a bin
abbrev pub one : ℕ → Float → ℕ
one bin energy = cond (is_in bin energy) 1 0

module _ (bin : ℕ) (energy : Float) where
  pub one_dropped : dropped energy ≡ true → one bin energy ≡ 0
  one_dropped h = ap (λ (b : Bool). cond (not b && eqb (bin_of energy) bin) 1 0) h

  pub one_there : dropped energy ≡ false → bin_of energy ≡ bin → one bin energy ≡ 1
  one_there h e =
      ap (λ (b : Bool). cond (not b && eqb (bin_of energy) bin) 1 0) h ∙ ap (λ (b : Bool). cond b 1 0) (eq-eqb (bin_of energy) bin e)

  pub one_elsewhere : dropped energy ≡ false → (bin_of energy ≡ bin → ⊥) → one bin energy ≡ 0
  one_elsewhere h e =
      ap (λ (b : Bool). cond (not b && eqb (bin_of energy) bin) 1 0) h ∙ ap (λ (b : Bool). cond b 1 0) (ne_eqb (bin_of energy) bin e)

-- ---- lists joined and reordered
module _ (bin : ℕ) where
  pub count_append : (l k : List Float) → count_in bin (l ++ k) ≡ count_in bin l + count_in bin k
  count_append [] k = sym (zero-add (count_in bin k))
  count_append (x ∷ l) k = ap (λ (n : ℕ). one bin x + n) (count_append l k) ∙ sym (add_assoc (one bin x) (count_in bin l) (count_in bin k))

  pub count_reordered : (l k : List Float) → Reordered l k → count_in bin l ≡ count_in bin k
  count_reordered l k (unmoved j) = refl
  count_reordered l k (under x {l = l'} {k = k'} p) = ap (λ (n : ℕ). one bin x + n) (count_reordered l' k' p)
  count_reordered l k (swap x y l') = omega arith
  count_reordered l k (after {k = j} p q) = count_reordered l j p ∙ count_reordered j k q

  pub run_reordered : (l k : List (List Float)) → Reordered l k → count_in bin (in_one_run l) ≡ count_in bin (in_one_run k)
  run_reordered l k (unmoved j) = refl
  run_reordered l k (under x {l = l'} {k = k'} p) =
      count_append x (in_one_run l') ∙ ap (λ (n : ℕ). count_in bin x + n) (run_reordered l' k' p) ∙ sym (count_append x (in_one_run k'))
  run_reordered l k (swap x y l') =
      omega (arith, count_append x (y ++ in_one_run l'), count_append y (in_one_run l'), count_append y (x ++ in_one_run l'), count_append x (in_one_run l'))
  run_reordered l k (after {k = j} p q) = run_reordered l j p ∙ run_reordered j k q

-- ---- all bins together
-- an energy is one block, unless it is dropped
blocks_of_one : (energy : Float) → blocks_in (tally (λ bin. one bin energy)) ≡ cond (dropped energy) 0 1
blocks_of_one energy = go (dropped energy) refl
  where
    go : (b : Bool) → dropped energy ≡ b → blocks_in (tally (λ bin. one bin energy)) ≡ cond b 0 1
    go true h = ap blocks_in (tally_same (λ bin. one bin energy) (λ bin. 0) (λ bin k. one_dropped bin energy h)) ∙ tally_blocks_zero
    go false h =
        tally_blocks_one (bin_of energy) (λ bin. one bin energy) (bin_below energy) (λ bin e. one_there bin energy h e) (λ bin e. one_elsewhere bin energy h e)

blocks_and_dropped : (l : List Float) → blocks_in (counters_of l) + length (dropped_of l) ≡ length l
blocks_and_dropped [] = omega (arith, tally_blocks_zero)
blocks_and_dropped (energy ∷ rest) =
    go (dropped energy) (blocks_of_one energy) (tally_blocks_sum (λ bin. one bin energy) (λ bin. count_in bin rest)) (blocks_and_dropped rest)
  where
    go : (b : Bool) → blocks_in (tally (λ bin. one bin energy)) ≡ cond b 0 1
        → blocks_in (counters_of (energy ∷ rest)) ≡ blocks_in (tally (λ bin. one bin energy)) + blocks_in (counters_of rest)
        → blocks_in (counters_of rest) + length (dropped_of rest) ≡ length rest
        → blocks_in (counters_of (energy ∷ rest)) + length (cond b (energy ∷ dropped_of rest) (dropped_of rest)) ≡ suc (length rest)
    go true e s h = omega arith
    go false e s h = omega arith

pub blocks_counted : (l : List Float) → blocks_in (counters_of l) ≡ length l - length (dropped_of l)
blocks_counted l = omega (arith, blocks_and_dropped l)
