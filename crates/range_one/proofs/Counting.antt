-- Counts of blocks over bins: how many stand below a bin, one bin more, and the running counts. Assumes nothing.
use mathlib.Core.Path.{◌≡◌, refl, ap, ◌∙◌}
use mathlib.Core.Bool.{Bool, true, false}
use mathlib.Core.List.{List, [], ◌∷◌}
use Prim.Native.Nat.{ℕ, zero, suc, min, ◌+◌, ◌*◌, ◌≤◌, ◌<◌, zero-le}
use native.Mathlib.Nat.{le_of_suc-le-suc, not-suc-le-zero}
use native.Mathlib.Numerals.{add-one}
use native.Mathlib.Omega.{arith}
use lib.IntN.{pos}
use lib.ListN.{length, get_or, take, drop, length-drop, length-append}
use lib.Seq.{take-add, drop-drop, take-append_seam, drop-append_seam}
use Rattle.std.proofs.Common.{map, sym, ◌++◌}
use Rattle.std.proofs.lemmas.List.{take-map, get_or-map, length-map, map-append, take_all}
use borrow.Author.Tests.{ltb-true, ltb-false}
use lib.Dec.{ltb}
use Rattle.bins.specs.Bin.{bins}
use lib.Ieee.{binary64, mul, of_int}
use Rattle.bins_tables.specs.Tables.{energy_at}
use Rattle.gate.specs.declared.blocks.Totals.{Totals}
use Rattle.gate.specs.Totals.{with_blocks, bins_from}
use Rattle.range_one.specs.Counted.{AtMost, blocks_in, running_from}

-- ---- blocks below a bin
pub blocks_suc : (l : List ℕ) (n : ℕ) → n < length l → blocks_in (take (suc n) l) ≡ blocks_in (take n l) + get_or l n 0
unfolding blocks_in
blocks_suc [] n h = absurd (not-suc-le-zero h)
blocks_suc (x ∷ l) zero h = omega arith
blocks_suc (x ∷ l) (suc n) h = omega (arith, blocks_suc l n (le_of_suc-le-suc h))

pub blocks_more : (l : List ℕ) (n : ℕ) → n < length l → blocks_in (take (n + 1) l) ≡ blocks_in (take n l) + get_or l n 0
blocks_more l n h = ap (λ (k : ℕ). blocks_in (take k l)) (add-one n) ∙ blocks_suc l n h

pub blocks_none : (l : List ℕ) → 0 ≡ blocks_in (take 0 l)
unfolding blocks_in
blocks_none l = refl

-- where no bin has more than so many
pub blocks_up_to : (most : ℕ) (l : List ℕ) → AtMost most l → (n : ℕ) → blocks_in (take n l) ≤ n * most
unfolding blocks_in
blocks_up_to most l b zero = zero-le
blocks_up_to most [] b (suc n) = zero-le
blocks_up_to most (x ∷ l) b (suc n) = omega (arith, b 0, blocks_up_to most l (λ (k : ℕ). b (suc k)) n)

-- those of the first bins are among all
pub blocks_part : (l : List ℕ) (n : ℕ) → blocks_in (take n l) ≤ blocks_in l
unfolding blocks_in
blocks_part l zero = zero-le
blocks_part [] (suc n) = zero-le
blocks_part (x ∷ l) (suc n) = omega (arith, blocks_part l n)

-- the totals over bins count them all
pub count_is : (totals : Totals) (bin : ℕ) (l : List ℕ) → (bins_from totals bin l).count ≡ totals.count + blocks_in l
unfolding bins_from blocks_in
count_is totals bin [] = omega arith
count_is totals bin (x ∷ l) =
    omega (arith, count_is (with_blocks totals x (mul binary64 (of_int binary64 (pos x)) (energy_at bin))) (suc bin) l)

-- ---- running counts
pub running_length : (before : ℕ) (l : List ℕ) → length (running_from before l) ≡ length l
unfolding running_from
running_length before [] = refl
running_length before (x ∷ l) = ap suc (running_length (before + x) l)

pub running_at : (before : ℕ) (l : List ℕ) (n : ℕ) → n < length l → get_or (running_from before l) n 0 ≡ before + blocks_in (take (suc n) l)
unfolding running_from blocks_in
running_at before [] n h = absurd (not-suc-le-zero h)
running_at before (x ∷ l) zero h = omega arith
running_at before (x ∷ l) (suc n) h = omega (arith, running_at (before + x) l n (le_of_suc-le-suc h))

-- ---- counters of some type, by the blocks of each
module _ {C : Type 0} (counted : C → ℕ) (l : List C) (n : ℕ) where
  pub counted_part : blocks_in (map counted (take n l)) ≤ blocks_in (map counted l)
  counted_part = rw (← take-map counted n l) (blocks_part (map counted l) n)

  pub counted_more : (x : C) → n < length l → x ≡ get_or l n x
      → blocks_in (map counted (take n l)) + counted x ≡ blocks_in (map counted (take (n + 1) l))
  counted_more x h e =
      let within : n < length (map counted l) = omega (arith, length-map l counted) in
      let one = blocks_more (map counted l) n within in
      let read : get_or (map counted l) n 0 ≡ counted x = get_or-map counted l n x 0 h ∙ ap counted (sym e) in
      rw (← take-map counted n l, ← take-map counted (n + 1) l) (omega (arith, one, read))

-- those below a bin, which may lie past the last one
module _ {C : Type 0} (counted : C → ℕ) (l : List C) where
  pub counted_below : (start bin : ℕ) → length l ≡ bins → bin ≡ min start bins
      → blocks_in (map counted (take bin l)) ≡ blocks_in (take start (map counted l))
  counted_below start bin long is = go (ltb start bins) refl
    where
      go : (b : Bool) → ltb start bins ≡ b → blocks_in (map counted (take bin l)) ≡ blocks_in (take start (map counted l))
      go true h =
          let inside = ltb-true start bins h in
          let same : bin ≡ start = omega (arith, is, inside) in
          ap (λ (n : ℕ). blocks_in (map counted (take n l))) same ∙ ap blocks_in (sym (take-map counted start l))
      go false h =
          let past = ltb-false start bins h in
          ap (λ (r : List C). blocks_in (map counted r)) (take_all bin l (omega (arith, is, past, long)) ∙ sym (take_all start l (omega (arith, past, long))))
          ∙ ap blocks_in (sym (take-map counted start l))

-- ---- a group of bins passed by
blocks_append : (a b : List ℕ) → blocks_in (a ++ b) ≡ blocks_in a + blocks_in b
unfolding blocks_in
blocks_append [] b = omega arith
blocks_append (x ∷ a) b = omega (arith, blocks_append a b)

module _ {C : Type 0} (counted : C → ℕ) (l group rest : List C) (bin : ℕ) (next : drop bin l ≡ group ++ rest) where
  group_is : take (length group) (drop bin l) ≡ group
  group_is = ap (take (length group)) next ∙ take-append_seam group rest

  taken : take (bin + length group) (map counted l) ≡ take bin (map counted l) ++ map counted group
  taken =
      take-map counted (bin + length group) l
      ∙ ap (map counted) (take-add bin (length group) l ∙ ap (λ (r : List C). take bin l ++ r) group_is)
      ∙ map-append counted (take bin l) group
      ∙ ap (λ (r : List ℕ). r ++ map counted group) (sym (take-map counted bin l))

  pub group_counted : blocks_in (take bin (map counted l)) + blocks_in (map counted group) ≡ blocks_in (take (bin + length group) (map counted l))
  group_counted = omega (arith, ap blocks_in taken, blocks_append (take bin (map counted l)) (map counted group))

  -- and there are few of them
  pub group_few : (most : ℕ) → blocks_in (map counted l) ≤ most → blocks_in (take bin (map counted l)) + blocks_in (map counted group) ≤ most
  group_few most h = omega (arith, group_counted, blocks_part (map counted l) (bin + length group))

  pub group_passed : drop (bin + length group) l ≡ rest
  group_passed = sym (drop-drop (length group) bin l) ∙ ap (drop (length group)) next ∙ drop-append_seam group rest

  pub group_inside : bin ≤ length l → bin + length group ≤ length l
  group_inside h = omega (arith, length-drop bin l, ap length next, length-append group rest)

-- where no bin has more than so many, neither have all of them together
pub blocks_all : (most : ℕ) (l : List ℕ) → AtMost most l → blocks_in l ≤ length l * most
unfolding blocks_in
blocks_all most [] few = zero-le
blocks_all most (x ∷ l) few = omega (arith, few 0, blocks_all most l (λ (k : ℕ). few (suc k)))
