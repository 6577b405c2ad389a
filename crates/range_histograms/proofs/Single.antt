-- A single history added to no block: a histogram's counters as they are, and of a queue no block. Assumes nothing.
use mathlib.Core.Path.{◌≡◌, refl, sym, ap, ◌∙◌}
use mathlib.Core.List.{List, [], ◌∷◌}
use Prim.Native.Nat.{ℕ, zero, suc, ◌+◌, ◌≤◌}
use native.Mathlib.Omega.{arith}
use lib.ListN.{length, get_or, replicate, length-take, length-drop}
use lib.Ieee.{Float}
use Rattle.bins.specs.Bin.{bins}
use Rattle.history_histogram.specs.Histogram.{empty, sums}
use Rattle.history_set.specs.declared.set.Entry.{Entry}
use Rattle.history_set.specs.Set.{counters_at, shows, all_show}
use Rattle.history_set.proofs.Entries.{past_the_last}
use Rattle.gate.specs.Totals.{none}
use Rattle.range_ranks.specs.Span.{nothing}
use Rattle.range_histograms.specs.Counted.{with_history, added_to, blocks_in, counted_span}
use Rattle.range_histograms.proofs.Counting.{count_is}
use Rattle.range_histograms.proofs.Answers.{counted_none}
use Rattle.range_histograms.proofs.Adding.{empty_is, added_any}

sums_zeros : (n : ℕ) (l : List ℕ) → length l ≡ n → sums (replicate n 0) l ≡ l
sums_zeros zero [] e = refl
sums_zeros zero (x ∷ l) e = absurd (omega (arith, e))
sums_zeros (suc n) [] e = absurd (omega (arith, e))
sums_zeros (suc n) (x ∷ l) e = ap {B = List ℕ} (λ (k : ℕ). k ∷ sums (replicate n 0) l) {x = 0 + x} {y = x} (omega arith) ∙ ap {B = List ℕ} (λ (r : List ℕ). x ∷ r) (sums_zeros n l (omega (arith, e)))

pub counters_alone : (counters : List ℕ) (start : ℕ) → start + bins ≤ length counters → counters_at counters start ≡ sums empty (counters_at counters start)
counters_alone counters start h =
    sym (ap (λ (l : List ℕ). sums l (counters_at counters start)) (sym empty_is)
    ∙ sums_zeros bins (counters_at counters start) (simp (length-take, length-drop) (omega arith)))

blocks_zeros : (n : ℕ) → blocks_in (replicate n 0) ≡ 0
unfolding blocks_in
blocks_zeros zero = refl
blocks_zeros (suc n) = omega (arith, blocks_zeros n)

pub empty_nothing : nothing ≡ counted_span empty
empty_nothing = sym (counted_none empty (count_is none 0 empty ∙ omega (arith, ap blocks_in (sym empty_is), blocks_zeros bins)))

-- one entry is all of them
pub one_entry : (l : List Entry) → length l ≡ 1 → get_or l 0 past_the_last ∷ [] ≡ l
one_entry [] e = absurd (omega (arith, e))
one_entry (entry ∷ []) e = refl
one_entry (entry ∷ more ∷ l) e = absurd (omega (arith, e))

pub one_added : (counters : List ℕ) (energies : List Float) (entry : Entry)
    → with_history empty (shows counters [] entry) ≡ added_to empty (all_show counters energies (entry ∷ []))
unfolding added_to all_show
one_added counters energies entry = added_any counters energies (entry ∷ []) empty
