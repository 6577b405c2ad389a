-- The range of counters (01, step 9): "the gate bin as in 8"; "The answer carries two energies: those of the first bins whose running count, blocks below the
-- gate included, passes the rank plus that lower count."
use Rattle.std.specs.Prelude.{ℕ, suc, ◌+◌, ◌-◌, ◌*◌, ◌≤◌, ◌≡◌, cond, List, [], ◌∷◌, eqb, ltb, length, get_or, take, Float}
use Rattle.bins_tables.specs.Tables.{energy_at}
use Rattle.bins.specs.Bin.{bins}
use Rattle.history_histogram.specs.Histogram.{largest_count}
use Rattle.history_set.specs.Set.{most_histories, counters_at}
use Rattle.gate.specs.declared.blocks.Totals.{Totals}
use Rattle.gate.specs.Totals.{none, bins_from}
unfoldable pub use Rattle.gate.specs.Totals.{blocks_in}
use Rattle.gate.specs.Start.{start_bin}
use Rattle.range_ranks.specs.Ranks.{low_rank, high_rank}
use Rattle.range_ranks.specs.Span.{Span, found, nothing, gate_energy}
use Rattle.range_one.specs.declared.Place.{Place}

-- the most blocks of a bin of 16 histograms
abbrev pub most_in_bin : ℕ
most_in_bin = most_histories * largest_count

-- no bin has more than so many blocks
abbrev pub AtMost : ℕ → List ℕ → Type 0
AtMost most counters = (bin : ℕ) → get_or counters bin 0 ≤ most

-- the running count at each bin, that bin included
unfoldable pub running_from : ℕ → List ℕ → List ℕ
running_from before [] = []
running_from before (count ∷ rest) = (before + count) ∷ running_from (before + count) rest

-- the first bin, from one on, whose running count passes the rank
unfoldable pub first_past : ℕ → ℕ → List ℕ → ℕ
first_past rank bin [] = bin
first_past rank bin (running ∷ rest) = cond (ltb rank running) bin (first_past rank (suc bin) rest)

-- the energy of the block of a rank
abbrev pub ranked_in : List ℕ → ℕ → Float
ranked_in counters rank = energy_at (first_past rank 0 (running_from 0 counters))

-- where so many blocks stand below the gate, and so many are left
unfoldable pub left_in : List ℕ → ℕ → ℕ → Span
left_in counters before left =
    cond (eqb left 0) nothing (found (ranked_in counters (low_rank (left - 1) + before)) (ranked_in counters (high_rank (left - 1) + before)))

unfoldable pub gated_blocks : List ℕ → Totals → Span
gated_blocks counters totals =
    let before = blocks_in (take (start_bin (gate_energy totals)) counters) in
    left_in counters before (totals.count - before)

-- the range of counters
unfoldable pub counted_span : List ℕ → Span
counted_span counters = let totals = bins_from none 0 counters in cond (eqb totals.count 0) nothing (gated_blocks counters totals)

-- that of the histogram whose counters start at a place. There is none where they do not end within the counters
unfoldable pub span_at : List ℕ → ℕ → Span
span_at counters start = cond (ltb (length counters) (start + bins)) nothing (counted_span (counters_at counters start))

-- ---- a search
-- a place that a search for a rank may start from: what stands below it is known, and does not reach the rank
abbrev pub Short : List ℕ → ℕ → Place → Type 0
Short counters rank place = (place.bin ≤ bins) × (place.before ≡ blocks_in (take place.bin counters)) × (place.before ≤ rank)
