-- The range of energies in rising order (01, step 9): "Queues skip the leading energies below it. Nothing left: Nothing. With n = blocks left - 1, low rank =
-- floor((n+5)/10), high rank = floor((19n+10)/20), counted from the first block left." "For queues they are the energies at those two places."
use Rattle.std.specs.Prelude.{◌-◌, cond, List, [], ◌∷◌, eqb, length, get_or, Float}
use Rattle.std.specs.Float.{nan}
use Rattle.gate.specs.Totals.{none, energies_from}
use Rattle.gate.specs.Start.{counts}
use Rattle.range_ranks.specs.Ranks.{low_rank, high_rank}
use Rattle.range_ranks.specs.Span.{Span, found, nothing, gate_energy}

-- what is left when the leading energies below the gate are skipped
unfoldable pub from_gate : Float → List Float → List Float
from_gate gate [] = []
from_gate gate (energy ∷ rest) = cond (counts gate energy) (energy ∷ rest) (from_gate gate rest)

-- the energies at the two ranks
unfoldable pub at_ranks : List Float → Span
at_ranks left =
    cond (eqb (length left) 0) nothing (found (get_or left (low_rank (length left - 1)) nan) (get_or left (high_rank (length left - 1)) nan))

-- the range of energies in rising order
abbrev pub listed_span : List Float → Span
listed_span rising = at_ranks (from_gate (gate_energy (energies_from none rising)) rising)
