-- How the C interface tells a relative threshold: as one float, through a pointer.
use Rattle.std.specs.Prelude.{Float}
use Rattle.base_refusals.specs.Outcome.{went, refused, Question}
use Rattle.gate.specs.Relative.{Limit, loudness, energy as level_energy}

-- a threshold as one float: an energy is never below 0, so -70.0 is told from it
abbrev pub float_of : Limit → Float
float_of (loudness l) = l
float_of (level_energy e) = e

abbrev pub float_or : Float → Question Limit → Float
float_or old (went kept level) = float_of level
float_or old (refused r) = old
