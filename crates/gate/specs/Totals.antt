-- Blocks counted and their energies added (01, step 8): "histogram: count times energy, bins upward; queue: oldest first".
use Rattle.std.specs.Prelude.{ℕ, suc, ◌+◌, ◌*◌, cond, List, [], ◌∷◌, length, drop, pos, from_bits, nat_lt, Float}
use Rattle.std.specs.Float.{binary64}
use Rattle.std.specs.Float.Ieee.{add, mul, div, of_int}
use Rattle.bins_tables.specs.Tables.{energy_at}
use Rattle.bins.specs.Bin.{bins}
use Rattle.history_histogram.specs.Histogram.{largest_count}
use Rattle.history_set.specs.Set.{counters_at}
use Rattle.gate.specs.declared.blocks.Totals.{Totals}

-- the most blocks of a history: every bin of a histogram full
abbrev pub most_blocks : ℕ
most_blocks = bins * largest_count

-- no block yet, on top of a running sum
abbrev pub on_top_of : Float → Totals
on_top_of sum = record { count = 0; sum = sum }

-- no block, and the sum 0. The Rust's sum of a queue starts from 0 or from -0, by its version: on energies that are positive or NaN this shows nowhere
abbrev pub none : Totals
none = on_top_of (from_bits binary64 0)

-- so many blocks more, with their energy
abbrev pub with_blocks : Totals → ℕ → Float → Totals
with_blocks totals blocks energy = record { count = totals.count + blocks; sum = add binary64 totals.sum energy }

-- the counters from a bin upward: count times energy
unfoldable pub bins_from : Totals → ℕ → List ℕ → Totals
bins_from totals bin [] = totals
bins_from totals bin (count ∷ rest) = bins_from (with_blocks totals count (mul binary64 (of_int binary64 (pos count)) (energy_at bin))) (suc bin) rest

-- how many blocks some bins have
unfoldable pub blocks_in : List ℕ → ℕ
blocks_in [] = 0
blocks_in (count ∷ rest) = count + blocks_in rest

-- ---- queues
-- energies one after the other, each a block
unfoldable pub energies_from : Totals → List Float → Totals
energies_from totals [] = totals
energies_from totals (energy ∷ rest) = energies_from (with_blocks totals 1 energy) rest

-- the mean energy of the blocks
abbrev pub mean_of : Totals → Float
mean_of totals = div binary64 totals.sum (of_int binary64 (pos totals.count))

-- the blocks, from a bin upward, of the histogram whose counters start at a place. It has none where they do not end within the counters
unfoldable pub from_bin : Float → List ℕ → ℕ → ℕ → Totals
from_bin sum counters start bin =
    cond (nat_lt (length counters) (start + bins)) (on_top_of sum) (bins_from (on_top_of sum) bin (drop bin (counters_at counters start)))
