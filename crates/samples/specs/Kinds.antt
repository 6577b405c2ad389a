-- The samples of a call, which are of one kind, and the floats that they become. A kind is a case, and has a line in each definition.
use Rattle.std.specs.Prelude.{ℕ, List, length, ℤ, Float}
use Rattle.samples.specs.Sample.{samples_of16, samples_of_f32}

pub data Samples : Type 0 where
  i16s : List ℤ → Samples
  f32s : List Float → Samples

-- how many there are
unfoldable pub size_of : Samples → ℕ
size_of (i16s samples) = length samples
size_of (f32s samples) = length samples

-- what peaks and weighting take
unfoldable pub as_f64 : Samples → List Float
as_f64 (i16s samples) = samples_of16 samples
as_f64 (f32s samples) = samples_of_f32 samples

-- what the interpolator takes; an i16 is the same float in f32 and in f64 (proofs/Exact.antt)
unfoldable pub as_f32 : Samples → List Float
as_f32 (i16s samples) = samples_of16 samples
as_f32 (f32s samples) = samples
