-- Counters of histograms added up, an entry at a time, and how far each bin can get: by one largest count an entry.
-- Only a histogram's counters are added, so that what the energies are plays no part. Assumes nothing.
use mathlib.Core.Path.{◌≡◌, refl, sym, ap, ◌∙◌}
use mathlib.Core.List.{List, [], ◌∷◌}
use Prim.Native.Nat.{ℕ, zero, suc, ◌+◌, ◌≤◌, ◌<◌, zero-le}
use native.Mathlib.Nat.{le_refl}
use native.Mathlib.Omega.{arith}
use lib.ListN.{length, get_or, take, drop, replicate, length-replicate}
use lib.Seq.{get_or-drop}
use lib.Ieee.{Float}
use Rattle.bins.specs.Bin.{bins}
use Rattle.history_histogram.specs.Histogram.{largest_count, empty, sums}
use Rattle.history_set.specs.declared.set.Entry.{Entry}
use Rattle.history_set.specs.declared.set.Shape.{Shape}
use Rattle.history_set.specs.declared.set.Shape.TheVariants.{Histogram, Queue as Queue-at}
use Rattle.history_set.specs.Set.{counters_at, shows, shape_shows, all_show}
use Rattle.history_set.proofs.Entries.{past_the_last, shows_next, shows_end}
use Rattle.range_histograms.specs.Counted.{AtMost, with_history, added_to}

-- ---- bin by bin
pub sums_length : (into from : List ℕ) → length (sums into from) ≡ length into
sums_length [] from = refl
sums_length (x ∷ into) [] = refl
sums_length (x ∷ into) (y ∷ from) = ap suc (sums_length into from)

sums_at : (into from : List ℕ) (bin : ℕ) → get_or (sums into from) bin 0 ≤ get_or into bin 0 + get_or from bin 0
sums_at [] from bin = omega arith
sums_at (x ∷ into) [] bin = omega arith
sums_at (x ∷ into) (y ∷ from) zero = omega arith
sums_at (x ∷ into) (y ∷ from) (suc bin) = sums_at into from bin

pub sums_most : (most : ℕ) (into from : List ℕ) → AtMost most into → AtMost largest_count from → AtMost (most + largest_count) (sums into from)
sums_most most into from p q bin = omega (arith, sums_at into from bin, p bin, q bin)

taken_at : (n : ℕ) (l : List ℕ) (bin : ℕ) → get_or (take n l) bin 0 ≤ get_or l bin 0
taken_at zero l bin = zero-le
taken_at (suc n) [] bin = zero-le
taken_at (suc n) (x ∷ l) zero = le_refl x
taken_at (suc n) (x ∷ l) (suc bin) = taken_at n l bin

-- the counters of a part are counters
pub part_most : (counters : List ℕ) (from n : ℕ) → AtMost largest_count counters → AtMost largest_count (take n (drop from counters))
part_most counters from n b bin = omega (arith, taken_at n (drop from counters) bin, get_or-drop from counters bin 0, b (from + bin))

-- ---- no block yet
zeros : (n bin : ℕ) → get_or (replicate n 0) bin 0 ≤ 0
zeros zero bin = zero-le
zeros (suc n) zero = zero-le
zeros (suc n) (suc bin) = zeros n bin

pub empty_is : replicate bins 0 ≡ empty
unfolding empty
empty_is = refl

pub zeros_length : length {A = ℕ} (replicate bins 0) ≡ bins
zeros_length = length-replicate {A = ℕ} bins 0

pub zeros_most : AtMost 0 (replicate bins 0)
zeros_most bin = zeros bins bin

-- ---- entry by entry
module _ (counters : List ℕ) (l : List Entry) (i : ℕ) (added : List ℕ) where
  pub added_turn : i < length l → (next : List ℕ) → next ≡ with_history added (shows counters [] (get_or l i past_the_last))
      → added_to next (all_show counters [] (drop (i + 1) l)) ≡ added_to added (all_show counters [] (drop i l))
  unfolding added_to
  added_turn h next e =
      ap (λ (a : List ℕ). added_to a (all_show counters [] (drop (i + 1) l))) e
      ∙ sym (ap (added_to added) (shows_next counters [] l i h))

  pub added_end : length l ≤ i → added_to added (all_show counters [] (drop i l)) ≡ added
  unfolding added_to
  added_end h = ap (added_to added) (shows_end counters [] l i h)

-- energies play no part
pub added_any : (counters : List ℕ) (energies : List Float) (l : List Entry) (added : List ℕ)
    → added_to added (all_show counters [] l) ≡ added_to added (all_show counters energies l)
unfolding added_to all_show
added_any counters energies [] added = refl
added_any counters energies (entry ∷ l) added = one entry.shape (λ (a : List ℕ). added_any counters energies l a)
  where
    one : (s : Shape) → ((a : List ℕ) → added_to a (all_show counters [] l) ≡ added_to a (all_show counters energies l))
        → added_to (with_history added (shape_shows counters [] s)) (all_show counters [] l)
        ≡ added_to (with_history added (shape_shows counters energies s)) (all_show counters energies l)
    one (Histogram start) rest = rest (sums added (counters_at counters start))
    one (Queue-at start queue) rest = rest added
