-- Demand 2, the ranks (01, step 9): "With n = blocks left - 1, low rank = floor((n+5)/10), high rank = floor((19n+10)/20), counted from the first block left.
-- The Rust works these in floats; equality is proved for n below 2^46." And no n that can arise is as large. proofs/Ranks.antt proves `RanksAreTheRusts`.
use Rattle.std.specs.Prelude.{ℕ, ◌≤◌, ◌<◌, ◌≡◌, length}
use Rattle.history_histogram.specs.Histogram.{largest_count, empty}
use Rattle.base_refusals.specs.Rows.{number_of}
use Rattle.history_set.specs.Set.{Histories, histories_of, set_rows}
use Rattle.range_ranks.specs.Ranks.{low_rank, high_rank, rank_in_floats, low_share, high_share, exact_below}
use Rattle.range_histograms.specs.Counted.{AtMost}
use Rattle.range_histograms.specs.Counted.{added_to, blocks_in}
use Rattle.range_queues.specs.Listed.{all_held}

-- both whole-number ranks of n are the Rust's `(n as f64 * share + 0.5) as u64`
abbrev pub AsTheRust : ℕ → Type 0
AsTheRust n = (rank_in_floats low_share n ≡ low_rank n) × (rank_in_floats high_share n ≡ high_rank n)

pub record RanksAreTheRusts : Type 0 where
  pub below : (n : ℕ) → n < exact_below → AsTheRust n
  -- over any set of histories that is not refused, of histograms whose counters are u32, or of queues: whatever the gate leaves, n is at most their blocks
  pub histograms : (question : Histories) → number_of (set_rows question) ≡ 0 → AtMost largest_count question.counters
      → (n : ℕ) → n ≤ blocks_in (added_to empty (histories_of question)) → AsTheRust n
  pub queues : (question : Histories) → number_of (set_rows question) ≡ 0 → (n : ℕ) → n ≤ length (all_held (histories_of question)) → AsTheRust n
