-- How a sample becomes a float (01, step 2): "i16 becomes s/32768, exact in f32 and f64. f32 becomes f64 exactly, subnormals included."
-- Each kind has one definition here. Whatever is said of a call's samples is said of the list of floats that they become, `map` of that definition.
use Rattle.std.specs.Prelude.{ℕ, List, map, ℤ, pos, Float}
use Rattle.std.specs.Float.{Format, binary64}
use Rattle.std.specs.Float.Ieee.{div, of_int}

-- the steps of an i16 up to full scale
abbrev pub full_scale16 : ℕ
full_scale16 = 32768

-- s/32768, as the format has it
unfoldable pub sample_in : Format → ℤ → Float
sample_in format s = div format (of_int format s) (of_int format (pos full_scale16))

abbrev pub sample_of16 : ℤ → Float
sample_of16 s = sample_in binary64 s

-- A float is the same float of the logic at either format, so an f32 is an f64 as it stands.
abbrev pub sample_of_f32 : Float → Float
sample_of_f32 x = x

-- the floats that a list of samples becomes
abbrev pub samples_of16 : List ℤ → List Float
samples_of16 samples = map sample_of16 samples

abbrev pub samples_of_f32 : List Float → List Float
samples_of_f32 samples = map sample_of_f32 samples

-- the same by a kind's own conversion (`Sample`)
abbrev pub samples_by : {A : Type 0} → (A → Float) → List A → List Float
samples_by float samples = map float samples
