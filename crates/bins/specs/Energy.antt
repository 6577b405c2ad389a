-- What becomes of an energy that is added to a history (01, step 7): "An energy below boundary 0 is dropped, with answer done."
use Rattle.std.specs.Prelude.{Bool, cond, Float}
use Rattle.std.specs.Float.Ieee.{lt}
use Rattle.bins_tables.specs.Tables.{boundary_at}

abbrev pub dropped : Float → Bool
dropped energy = lt energy (boundary_at 0)

-- a dropped energy leaves the history as it is. Any other is taken, NaN among them: it goes to bin 0 of a histogram, and enters a queue
abbrev pub received : {History : Type 0} → History → Float → History → History
received history energy taken = cond (dropped energy) history taken
