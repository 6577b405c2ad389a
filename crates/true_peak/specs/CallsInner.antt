-- The batches in which integers become f32. What a call comes to is `true_peak`'s own definition, over the floats of whatever kind.
use Rattle.std.specs.Prelude.{ℕ}

-- the places of a batch
abbrev pub places : ℕ
places = 4096
