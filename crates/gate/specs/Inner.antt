-- Inner definitions: what the loops over stretches of bins and over energies go by, the search for the bin where a gate starts, and what histories come to.
use Rattle.std.specs.Prelude.{◌≡◌, ℕ, suc, ◌+◌, ◌-◌, ◌<◌, Bool, true, cond, not, T, ◌⊎◌, List, [], ◌∷◌, drop, pos, Float}
use Rattle.std.specs.List.{fold}
use Rattle.std.specs.Float.{nan, inf, fin, binary64}
use Rattle.std.specs.Float.Ieee.{add, mul, of_int, fits, lt}
use Rattle.base_refusals.specs.Outcome.{Question, answers}
use Rattle.base_refusals.specs.Rows.{by_rows}
use Rattle.bins_tables.specs.Tables.{energy_at}
use Rattle.history_set.specs.Set.{Histories, histories_of, set_rows}
use Rattle.gate.specs.declared.blocks.Totals.{Totals}
use Rattle.gate.specs.Totals.{none, with_blocks, bins_from, blocks_in}
use Rattle.gate.specs.Start.{counts}
use Rattle.gate.specs.Sums.{all_of}

-- so many bins are passed over at once where none of them has a block
abbrev pub stretch : ℕ
stretch = 20

-- what the counters from a bin on come to, on top of running totals
abbrev pub onwards : Totals → ℕ → List ℕ → Totals
onwards totals bin counters = bins_from totals bin (drop bin counters)

-- ---- its two parts
-- the sum, from a bin upward
unfoldable pub sum_from : Float → ℕ → List ℕ → Float
sum_from sum bin [] = sum
sum_from sum bin (count ∷ rest) = sum_from (add binary64 sum (mul binary64 (of_int binary64 (pos count)) (energy_at bin))) (suc bin) rest

-- those of the counters from a bin on
abbrev pub blocks_above : ℕ → List ℕ → ℕ
blocks_above bin counters = blocks_in (drop bin counters)

abbrev pub sum_above : Float → ℕ → List ℕ → Float
sum_above sum bin counters = sum_from sum bin (drop bin counters)

-- ---- sums that stay as they are where 0 is added
-- no minus: NaN, or a number without one, so not -0
unfoldable pub unsigned : Float → Bool
unsigned nan = true
unsigned (inf minus) = not minus
unsigned (fin minus m e) = not minus

-- a sum that stays as it is where 0 is added
abbrev pub Steady : Float → Type 0
Steady sum = T (fits binary64 sum) × T (unsigned sum)

-- ---- where a gate starts
-- the bins up to here are past: the energy of the last of them is below the threshold
abbrev pub Past : Float → ℕ → Type 0
Past threshold bin = (bin ≡ 0) ⊎ ((0 < bin) × (lt (energy_at (bin - 1)) threshold ≡ true))

-- ---- what energies add at a gate with none passed over: an energy below the threshold adds 0. On a sum that 0 leaves as it is this is `kept_from` (proofs/Keeping.antt)
abbrev pub energy_kept : Float → Float → Float
energy_kept threshold energy = cond (counts threshold energy) energy none.sum

abbrev pub blocks_kept : Float → Float → ℕ
blocks_kept threshold energy = cond (counts threshold energy) 1 0

-- the number of those kept, on top of a count, and their sum on top of another
abbrev pub counted_from : Float → ℕ → List Float → ℕ
counted_from threshold = fold (λ count energy. count + blocks_kept threshold energy)

abbrev pub summed_from : Float → Float → List Float → Float
summed_from threshold = fold (λ sum energy. add binary64 sum (energy_kept threshold energy))

-- both at once
abbrev pub added_from : Float → Totals → List Float → Totals
added_from threshold = fold (λ totals energy. with_blocks totals (blocks_kept threshold energy) (energy_kept threshold energy))

-- the sum of all, on top of another
abbrev pub sum_onto : Float → List Float → Float
sum_onto = fold (add binary64)

-- ---- histories added up: what refuses them, or their blocks and the sum of their energies
unfoldable pub sums_of : Histories → Question Totals
sums_of h = by_rows (set_rows h) (answers (all_of (histories_of h)))
