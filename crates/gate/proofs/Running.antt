-- Running totals over counters and over energies, a turn at a time: the first of what is left is added, and the rest goes on from there.
-- The definitions go by recursion on the list, so each law is one step of it. Assumes nothing.
use Rattle.std.proofs.Common.{◌≡◌, ℕ, suc, ◌+◌, ◌<◌, ◌≤◌, List, [], ◌∷◌, length, get_or, drop, pos, ap, ◌∙◌, add-one, arith, drop_of_length-le, drop-cons, le-ltb, lt-ltb}
use lib.Ieee.{Float, binary64, add, mul, of_int}
use Rattle.bins_tables.specs.Tables.{energy_at}
use Rattle.bins.specs.Bin.{bins}
use Rattle.history_set.specs.Set.{counters_at}
use Rattle.gate.specs.declared.blocks.Totals.{Totals}
use Rattle.gate.specs.Totals.{on_top_of, with_blocks, bins_from, blocks_in, energies_from, from_bin}
use Rattle.gate.specs.Inner.{sum_from}

module _ (counters : List ℕ) (totals : Totals) (bin : ℕ) where
  pub bins_turn : bin < length counters
      → bins_from (with_blocks totals (get_or counters bin 0) (mul binary64 (of_int binary64 (pos (get_or counters bin 0))) (energy_at bin))) (bin + 1) (drop (bin + 1) counters)
      ≡ bins_from totals bin (drop bin counters)
  unfolding bins_from
  bins_turn h = rw (add-one bin, drop-cons counters bin 0 h)

  pub bins_end : length counters ≤ bin → bins_from totals bin (drop bin counters) ≡ totals
  unfolding bins_from
  bins_end h = rw (drop_of_length-le counters h)

-- ---- count and sum apart
pub bins_split : (count : ℕ) (sum : Float) (bin : ℕ) (l : List ℕ)
    → bins_from (record { count = count; sum = sum }) bin l ≡ record { count = count + blocks_in l; sum = sum_from sum bin l }
unfolding bins_from blocks_in sum_from
bins_split count sum bin [] = ap {B = Totals} (λ (n : ℕ). record { count = n; sum = sum }) {x = count} {y = count + 0} (omega arith)
bins_split count sum bin (x ∷ l) =
    let next = add binary64 sum (mul binary64 (of_int binary64 (pos x)) (energy_at bin)) in
    bins_split (count + x) next (suc bin) l
    ∙ ap {B = Totals} (λ (n : ℕ). record { count = n; sum = sum_from next (suc bin) l }) {x = count + x + blocks_in l} {y = count + (x + blocks_in l)} (omega arith)

-- ---- energies, each a block
module _ (energies : List Float) (totals : Totals) (i : ℕ) where
  pub energies_turn : (d : Float) → i < length energies
      → energies_from (with_blocks totals 1 (get_or energies i d)) (drop (i + 1) energies) ≡ energies_from totals (drop i energies)
  unfolding energies_from
  energies_turn d h = rw (add-one i, drop-cons energies i d h)

  pub energies_end : length energies ≤ i → energies_from totals (drop i energies) ≡ totals
  unfolding energies_from
  energies_end h = rw (drop_of_length-le energies h)

-- ---- a histogram among the counters: it is not there, or it is
module _ (sum : Float) (counters : List ℕ) (start bin : ℕ) where
  pub not_there : length counters < start + bins → from_bin sum counters start bin ≡ on_top_of sum
  unfolding from_bin
  not_there h = rw (lt-ltb (length counters) (start + bins) h)

  pub there : start + bins ≤ length counters → from_bin sum counters start bin ≡ bins_from (on_top_of sum) bin (drop bin (counters_at counters start))
  unfolding from_bin
  there h = rw (le-ltb (length counters) (start + bins) h)
