-- The blocks of histories and the sum of their energies (01, step 8): "Each history gives count and sum (histogram: count times energy, bins upward; queue:
-- oldest first), added history by history from 0."
use Rattle.std.specs.Prelude.{ℕ, List, [], ◌∷◌, Float}
use Rattle.history_set.specs.declared.set.Entry.{Entry}
use Rattle.history_set.specs.Set.{History, counted, listed, Histories, histories}
use Rattle.gate.specs.declared.blocks.Totals.{Totals}
use Rattle.gate.specs.Totals.{none, with_blocks, bins_from, energies_from}

-- what each history gives, and all of them, history by history
abbrev pub totals_of : History → Totals
totals_of (counted counters) = bins_from none 0 counters
totals_of (listed energies) = energies_from none energies

unfoldable pub all_totals : Totals → List History → Totals
all_totals totals [] = totals
all_totals totals (history ∷ rest) = all_totals (with_blocks totals (totals_of history).count (totals_of history).sum) rest

abbrev pub all_of : List History → Totals
all_of histories = all_totals none histories

-- a set of one history
abbrev pub alone : Entry → List ℕ → List Float → Histories
alone entry counters energies = histories (entry ∷ []) 1 counters energies
