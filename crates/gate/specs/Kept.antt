-- What a queue keeps at a gate (01, step 8): "Queue energies count if not below the threshold."
use Rattle.std.specs.Prelude.{cond, List, [], ◌∷◌, Float}
use Rattle.gate.specs.declared.blocks.Totals.{Totals}
use Rattle.gate.specs.Totals.{with_blocks}
use Rattle.gate.specs.Start.{counts}

-- energies one after the other, each that counts a block
unfoldable pub kept_from : Float → Totals → List Float → Totals
kept_from threshold totals [] = totals
kept_from threshold totals (energy ∷ rest) = kept_from threshold (cond (counts threshold energy) (with_blocks totals 1 energy) totals) rest
