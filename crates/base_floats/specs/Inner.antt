-- What values make of a top: the top itself, or what is greater.
use Rattle.std.specs.Prelude.{◌≡◌, ◌⊎◌, T, Float}
use Rattle.std.specs.Float.Ieee.{lt}

abbrev pub Raised : Float → Float → Type 0
Raised top v = (v ≡ top) ⊎ T (lt top v)
