-- The lanes of the sample peak's inner loop.
use Rattle.std.specs.Prelude.{ℕ}

abbrev pub most_lanes : ℕ
most_lanes = 24
