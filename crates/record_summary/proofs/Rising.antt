-- The low bin of a report is not above its high bin, so the range is how far they are apart and no difference is cut off at 0: the low rank is not above the
-- high rank, and the high rank is one of the blocks. Assumes nothing.
use mathlib.Core.Path.{◌≡◌, refl}
use mathlib.Core.Bool.{Bool, true, false, cond}
use mathlib.Core.List.{List, [], ◌∷◌}
use Prim.Native.Nat.{ℕ, suc, ◌+◌, ◌-◌, ◌≤◌, ◌<◌}
use native.Mathlib.Omega.{arith}
use borrow.Author.Tests.{ltb-true, ltb-false, eqb-false}
use lib.Dec.{eqb, ltb}
use lib.ListN.{length, take}
use Rattle.bins.specs.Bin.{bins, bin_of}
use Rattle.bins.proofs.Bins.{bin_of_energy}
use Rattle.gate.specs.declared.blocks.Totals.{Totals}
use Rattle.gate.specs.Totals.{none, bins_from}
use Rattle.gate.specs.Start.{start_bin}
use Rattle.range_ranks.specs.Ranks.{low_rank, high_rank}
use Rattle.range_ranks.specs.Span.{Span, found, nothing, not_a_number, gate_energy}
use Rattle.range_histograms.specs.Counted.{blocks_in, running_from, first_past, ranked_in, left_in, gated_blocks, counted_span}
use Rattle.range_histograms.proofs.Counting.{count_is, blocks_part}

-- ---- the first bin whose running count passes a rank
first_from : (rank bin : ℕ) (running : List ℕ) → bin ≤ first_past rank bin running
unfolding first_past
first_from rank bin [] = omega arith
first_from rank bin (x ∷ running) = go (ltb rank x) (first_from rank (suc bin) running)
  where
    go : (b : Bool) → suc bin ≤ first_past rank (suc bin) running → bin ≤ cond b bin (first_past rank (suc bin) running)
    go true later = omega arith
    go false later = omega (arith, later)

first_rises : (low high bin : ℕ) (running : List ℕ) → low ≤ high → first_past low bin running ≤ first_past high bin running
unfolding first_past
first_rises low high bin [] h = omega arith
first_rises low high bin (x ∷ running) h = go (ltb low x) (ltb high x) refl refl (first_rises low high (suc bin) running h)
  where
    go : (a b : Bool) → ltb low x ≡ a → ltb high x ≡ b → first_past low (suc bin) running ≤ first_past high (suc bin) running
        → cond a bin (first_past low (suc bin) running) ≤ cond b bin (first_past high (suc bin) running)
    go true true p q later = omega arith
    go true false p q later = omega (arith, first_from high (suc bin) running)
    go false true p q later = absurd (omega (arith, ltb-false low x p, ltb-true high x q, h))
    go false false p q later = later

-- a rank that is one of the blocks has its bin
first_within : (rank before bin : ℕ) (l : List ℕ) → before ≤ rank → rank < before + blocks_in l → first_past rank bin (running_from before l) < bin + length l
unfolding first_past running_from blocks_in
first_within rank before bin [] b h = absurd (omega (arith, b, h))
first_within rank before bin (x ∷ l) b h =
    go (ltb rank (before + x)) refl (λ past. first_within rank (before + x) (suc bin) l past (omega (arith, h)))
  where
    go : (p : Bool) → ltb rank (before + x) ≡ p → (before + x ≤ rank → first_past rank (suc bin) (running_from (before + x) l) < suc bin + length l)
        → cond p bin (first_past rank (suc bin) (running_from (before + x) l)) < bin + suc (length l)
    go true p later = omega arith
    go false p later = omega (arith, later (ltb-false rank (before + x) p))

-- ---- ranks
ranks_rise : (n : ℕ) → (low_rank n ≤ high_rank n) × (high_rank n ≤ n)
ranks_rise n = (omega arith, omega arith)

-- ---- spans
-- the bins of a span's energies
abbrev pub Rising : Span → Type 0
Rising (found low high) = bin_of low ≤ bin_of high
Rising nothing = Unit
Rising not_a_number = Unit

module _ (counters : List ℕ) (thousand : length counters ≡ bins) where
  ranked_rise : (low high : ℕ) → low ≤ high → high < blocks_in counters → bin_of (ranked_in counters low) ≤ bin_of (ranked_in counters high)
  ranked_rise low high l h =
      let running = running_from 0 counters in
      let rise = first_rises low high 0 running l in
      let within = first_within high 0 0 counters (omega arith) (omega (arith, h)) in
      omega
      (arith, rise, bin_of_energy (first_past low 0 running) (omega (arith, rise, within, thousand)), bin_of_energy (first_past high 0 running) (omega (arith, within, thousand)))

  left_rises : (before left : ℕ) → before + left ≡ blocks_in counters → Rising (left_in counters before left)
  unfolding left_in
  left_rises before left e = go (eqb left 0) refl
    where
      go : (b : Bool) → eqb left 0 ≡ b → Rising (cond b nothing (found (ranked_in counters (low_rank (left - 1) + before)) (ranked_in counters (high_rank (left - 1) + before))))
      go true p = tt
      go false p =
          let some = eqb-false left 0 p in
          let r = ranks_rise (left - 1) in
          ranked_rise (low_rank (left - 1) + before) (high_rank (left - 1) + before) (omega (arith, r.0)) (omega (arith, r.1, e, some))

  pub counted_rises : Rising (counted_span counters)
  unfolding counted_span gated_blocks
  counted_rises = go (eqb totals.count 0)
    where
      totals : Totals
      totals = bins_from none 0 counters

      start : ℕ
      start = start_bin (gate_energy totals)

      go : (b : Bool) → Rising (cond b nothing (gated_blocks counters totals))
      go true = tt
      go false =
          left_rises (blocks_in (take start counters)) (totals.count - blocks_in (take start counters))
          (omega (arith, count_is none 0 counters, blocks_part counters start))
