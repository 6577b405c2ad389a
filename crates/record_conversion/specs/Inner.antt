-- What the inner functions work with: fields one after the other, the bytes of each turned round. No public contract rests on it.
use Rattle.std.specs.Prelude.{ℕ, zero, suc, List, [], ◌++◌, reverse, take, drop}
use Rattle.record_layout.specs.Layout.{number_width, energy_width}
use Rattle.record_conversion.specs.declared.Field.{Field}
use Rattle.record_conversion.specs.declared.Field.TheVariants.{Word, DoubleWord}

abbrev pub width_of : Field → ℕ
width_of Word = number_width
width_of DoubleWord = energy_width

unfoldable pub each_turned : ℕ → ℕ → List ℕ → List ℕ
each_turned width zero bytes = []
each_turned width (suc count) bytes = reverse (take width bytes) ++ each_turned width count (drop width bytes)
