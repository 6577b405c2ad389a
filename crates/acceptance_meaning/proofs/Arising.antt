-- Every n of which a rank is taken is below 2 ^ 46, so that each rank is the one that the Rust works in floats.
-- No set has more than 16 histories, no histogram more than 1,000 full bins, and no queue more than 36,000 energies. Assumes nothing.
use mathlib.Core.Path.{◌≡◌, refl, ◌∙◌}
use mathlib.Core.Bool.{true}
use mathlib.Core.List.{List, [], ◌∷◌, ◌++◌}
use Prim.Native.Nat.{ℕ, suc, ◌+◌, ◌*◌, ◌≤◌, ◌<◌, zero-le}
use native.Mathlib.Omega.{arith}
use lib.ListN.{length, get_or, take, drop, length-take, length-append, replicate}
use lib.Ieee.{Float}
use Rattle.base_refusals.specs.Rows.{number_of}
use Rattle.bins.specs.Bin.{bins}
use Rattle.history_histogram.specs.Histogram.{largest_count, empty, sums}
use Rattle.history_queue.specs.Queue.{longest, suits, held_of}
use Rattle.history_set.specs.declared.set.Entry.{Entry}
use Rattle.history_set.specs.declared.set.Shape.{Shape}
use Rattle.history_set.specs.declared.set.Shape.TheVariants.{Histogram, Queue as Queue-at}
use Rattle.history_set.specs.Set.{
  most_histories,
  Histories,
  histories_of,
  chosen,
  counters_at,
  queue_at,
  shape_shows,
  all_show,
  none_below,
  shape_sound,
  is_sound,
  all_sound,
  set_rows,
}
use Rattle.history_queue.proofs.Ring.{suited}
use Rattle.history_queue.proofs.Held.{held_count}
use Rattle.history_set.proofs.Entries.{both}
use Rattle.history_set.proofs.Rows.{kept}
use Rattle.range_ranks.specs.Ranks.{low_rank, high_rank, rank_in_floats, low_share, high_share, exact_below}
use Rattle.range_ranks.proofs.InFloats.{low_rank_is_the_rust's, high_rank_is_the_rust's}
use Rattle.range_histograms.specs.Counted.{with_history, added_to, blocks_in}
use Rattle.range_queues.specs.Listed.{held_by, all_held}
use Rattle.range_histograms.specs.Counted.{AtMost, most_in_bin}
use Rattle.range_histograms.proofs.Adding.{sums_length, sums_most, part_most, zeros_length, zeros_most}
use Rattle.range_histograms.proofs.Counting.{blocks_all_most}

-- the two ranks of an n, as the Rust works them
abbrev pub AsTheRust : ℕ → Type 0
AsTheRust n = (rank_in_floats low_share n ≡ low_rank n) × (rank_in_floats high_share n ≡ high_rank n)

as_the_rust : (n : ℕ) → n < exact_below → AsTheRust n
as_the_rust n h = (low_rank_is_the_rust's n h, high_rank_is_the_rust's n h)

-- ---- histograms
module _ (counters : List ℕ) (energies : List Float) where
  pub added_length : (l : List Entry) (added : List ℕ) → length (added_to added (all_show counters energies l)) ≡ length added
  unfolding added_to all_show
  added_length [] added = refl
  added_length (entry ∷ l) added = one entry.shape (λ (a : List ℕ). added_length l a)
    where
      one : (s : Shape) → ((a : List ℕ) → length (added_to a (all_show counters energies l)) ≡ length a)
          → length (added_to (with_history added (shape_shows counters energies s)) (all_show counters energies l)) ≡ length added
      one (Histogram start) rest = rest (sums added (counters_at counters start)) ∙ sums_length added (counters_at counters start)
      one (Queue-at start queue) rest = rest added

  added_most : AtMost largest_count counters → (l : List Entry) (most : ℕ) (added : List ℕ) → AtMost most added
      → AtMost (most + length l * largest_count) (added_to added (all_show counters energies l))
  unfolding added_to all_show
  added_most b [] most added a bin = omega (arith, a bin)
  added_most b (entry ∷ l) most added a bin = one entry.shape (λ (m : ℕ) (x : List ℕ) (y : AtMost m x). added_most b l m x y bin)
    where
      one : (s : Shape)
          → ((m : ℕ) (x : List ℕ) → AtMost m x → get_or (added_to x (all_show counters energies l)) bin 0 ≤ m + length l * largest_count)
          → get_or (added_to (with_history added (shape_shows counters energies s)) (all_show counters energies l)) bin 0 ≤ most + suc (length l) * largest_count
      one (Histogram start) rest =
          omega (arith, rest (most + largest_count) (sums added (counters_at counters start)) (sums_most most added (counters_at counters start) a (part_most counters start bins b)))
      one (Queue-at start queue) rest = omega (arith, rest most added a)

pub histogram_ranks : (h : Histories) → number_of (set_rows h) ≡ 0 → AtMost largest_count h.counters
    → (n : ℕ) → n ≤ blocks_in (added_to empty (histories_of h)) → AsTheRust n
unfolding empty
histogram_ranks h s b n g =
    let k = kept h s in
    let added = added_to (replicate bins 0) (histories_of h) in
    let few : length (chosen h) ≤ most_histories = omega (arith, length-take h.count h.entries, k.few) in
    let most : AtMost most_in_bin added = λ (bin : ℕ). omega (arith, added_most h.counters h.energies b (chosen h) 0 (replicate bins 0) zeros_most bin) in
    as_the_rust n (omega (arith, blocks_all_most added most, added_length h.counters h.energies (chosen h) (replicate bins 0), zeros_length))

-- ---- queues
held_most : (counters : List ℕ) (energies : List Float) (l : List Entry) → all_sound energies l ≡ true
    → length (all_held (all_show counters energies l)) ≤ length l * longest
unfolding all_sound all_held all_show
held_most counters energies [] s = zero-le
held_most counters energies (entry ∷ l) s =
    let p = both (is_sound energies entry) (all_sound energies l) s in
    one entry.shape p.0 (held_most counters energies l p.1)
  where
    one : (s : Shape) → shape_sound energies s ≡ true → length (all_held (all_show counters energies l)) ≤ length l * longest
        → length (held_by (shape_shows counters energies s) ++ all_held (all_show counters energies l)) ≤ suc (length l) * longest
    one (Histogram start) h r = omega arith
    one (Queue-at start queue) h r =
        let f = suited queue queue.maximum (both (suits queue queue.maximum) (none_below (held_of (queue_at energies start queue))) h).0 in
        omega (
          arith,
          length-append (held_of (queue_at energies start queue)) (all_held (all_show counters energies l)),
          held_count (take queue.maximum (drop start energies)) queue.maximum queue.head queue.held,
          f.full,
          f.most,
        )

pub queue_ranks : (h : Histories) → number_of (set_rows h) ≡ 0 → (n : ℕ) → n ≤ length (all_held (histories_of h)) → AsTheRust n
queue_ranks h s n g =
    let k = kept h s in
    as_the_rust n (omega (arith, held_most h.counters h.energies (chosen h) k.stores, length-take h.count h.entries, k.few))
