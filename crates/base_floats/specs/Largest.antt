-- The largest absolute value, of f32 and of f64 (01, steps 3 and 6): "take the largest absolute value; NaN never wins."
use Rattle.std.specs.Prelude.{false, cond, List, [], ◌∷◌, map, Float}
use Rattle.std.specs.Float.{nan, inf, fin}
use Rattle.std.specs.Float.Ieee.{lt}

-- the absolute value
abbrev pub magnitude : Float → Float
magnitude nan = nan
magnitude (inf s) = inf false
magnitude (fin s m e) = fin false m e

-- "It replaces the stored peak only if greater": NaN never is, and a NaN that is stored stays
abbrev pub greater : Float → Float → Float
greater top v = cond (lt top v) v top

-- the greatest of some values, from a top on
unfoldable pub greatest : Float → List Float → Float
greatest top [] = top
greatest top (v ∷ vs) = greatest (greater top v) vs

-- the largest absolute value, from a top on
abbrev pub largest : Float → List Float → Float
largest top xs = greatest top (map magnitude xs)
