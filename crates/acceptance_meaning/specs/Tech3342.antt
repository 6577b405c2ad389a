-- The loudness range as EBU Tech 3342 has it, over the energies of blocks in any order: an absolute gate at -70 LUFS; a relative gate 20 LU below the mean
-- of the blocks that the first leaves; and of those left the 10th and the 95th percentile, by rank in rising order. It is written from how
-- that document is commonly cited; its text was not at hand, and docs/DIFFERENCES.md says what is to be checked against it.
-- What the document leaves open is taken as 01 has it: sums and the factor are f64, the sum in rising order; a block at a gate stays; a percentile that
-- falls between two ranks is the nearer one, and the upper of two that are as near.
use Rattle.std.specs.Prelude.{ℕ, suc, ◌+◌, ◌-◌, ◌*◌, ◌/◌, cond, List, [], ◌∷◌, ◌++◌, eqb, length, get_or, replicate, Float}
use Rattle.std.specs.Float.{nan}
use Rattle.std.specs.Float.Ieee.{lt}
use Rattle.bins_tables.specs.Tables.{energy_at}
use Rattle.order_rules.specs.Order.{in_order}
use Rattle.range_ranks.specs.Span.{Span, found, nothing}
use Rattle.acceptance_meaning.specs.Levels.{absolute_gate, no_energy, added, mean, twenty_lu_below}

-- the blocks that a gate leaves: those that are not below it
unfoldable pub gated : Float → List Float → List Float
gated gate [] = []
gated gate (energy ∷ rest) = cond (lt energy gate) (gated gate rest) (energy ∷ gated gate rest)

-- 20 LU below the mean of these blocks, which are added in rising order
abbrev pub relative_gate : List Float → Float
relative_gate blocks = twenty_lu_below (mean (length blocks) (added no_energy (in_order blocks)))

-- the rank of a percentile among so many blocks, the first at 0: the whole number nearest to its share of the last rank, a tie upward
abbrev pub percentile_rank : ℕ → ℕ → ℕ
percentile_rank percent blocks = (percent * (blocks - 1) + 50) / 100

abbrev pub percentile : ℕ → List Float → Float
percentile percent blocks = get_or (in_order blocks) (percentile_rank percent (length blocks)) nan

unfoldable pub percentiles : List Float → Span
percentiles blocks = cond (eqb (length blocks) 0) nothing (found (percentile 10 blocks) (percentile 95 blocks))

-- the range of blocks, with the relative gate at some energy, and where the document has it
abbrev pub range_above : Float → List Float → Span
range_above gate blocks = percentiles (gated gate (gated absolute_gate blocks))

unfoldable pub loudness_range : List Float → Span
loudness_range blocks = range_above (relative_gate (gated absolute_gate blocks)) blocks

-- the blocks of a histogram, from a bin upward, each with its bin's energy
unfoldable pub blocks_from : ℕ → List ℕ → List Float
blocks_from bin [] = []
blocks_from bin (count ∷ rest) = replicate count (energy_at bin) ++ blocks_from (suc bin) rest
