-- The relative gate (01, step 8).
-- "Each history gives count and sum (histogram: count times energy, bins upward; queue: oldest first), added history by history from 0. NONE if the count
-- is 0, NAN if the sum is NaN. Threshold = (sum / count) times the f64 nearest 1/10. Histogram bins count from the threshold's bin, or the next if the
-- threshold is above that bin's energy; below boundary 0 from bin 0; the start may be 1000. Queue energies count if not below the threshold. One running
-- sum passes over all histories in order."
use Rattle.std.specs.Prelude.{not, ◌&&◌, ◌||◌, List, [], ◌∷◌, ◌++◌, drop, ◌==◌, is_nan, Float}
use Rattle.base_refusals.specs.declared.Refusal.TheVariants.{NONE, NAN}
use Rattle.base_refusals.specs.Outcome.{Question, answers}
use Rattle.base_refusals.specs.Rows.{Row, row, by_rows}
use Rattle.history_set.specs.Set.{History, counted, listed, Histories, histories_of, set_rows}
use Rattle.gate.specs.declared.blocks.Totals.{Totals}
use Rattle.gate.specs.Totals.{none, bins_from}
use Rattle.gate.specs.Start.{start_bin}
use Rattle.gate.specs.Sums.{all_of}
use Rattle.gate.specs.Relative.{threshold_of}
use Rattle.gate.specs.Kept.{kept_from}

-- ---- at or above the gate
abbrev pub gated_of : Float → Totals → History → Totals
gated_of threshold totals (counted counters) = bins_from totals (start_bin threshold) (drop (start_bin threshold) counters)
gated_of threshold totals (listed energies) = kept_from threshold totals energies

-- one running sum over all histories
unfoldable pub all_gated : Float → Totals → List History → Totals
all_gated threshold totals [] = totals
all_gated threshold totals (history ∷ rest) = all_gated threshold (gated_of threshold totals history) rest

abbrev pub left_of : List History → Totals
left_of histories = all_gated (threshold_of (all_of histories)) none histories

-- ---- the gate question
-- NONE: "no blocks, or the sum is not NaN and no block is at or above the gate". NAN: "the threshold sum is NaN"
abbrev pub gating_rows : Totals → Totals → List Row
gating_rows all left =
    row NONE (all.count == 0 || (not (is_nan all.sum) && left.count == 0))
    ∷ row NAN (is_nan all.sum)
    ∷ []

abbrev pub gate_rows : Histories → List Row
gate_rows h = set_rows h ++ gating_rows (all_of (histories_of h)) (left_of (histories_of h))

-- the blocks at or above the gate, and the sum of their energies
unfoldable pub gate_of : Histories → Question Totals
gate_of h = by_rows (gate_rows h) (answers (left_of (histories_of h)))

-- the same by what all blocks come to and what the gate leaves of them, behind what refuses a set
abbrev pub gate_over : Totals → Totals → Question Totals
gate_over all left = by_rows (gating_rows all left) (answers left)
