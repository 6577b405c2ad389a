-- The samples of a call by their kind: each becomes one float. Assumes nothing.
use Rattle.std.proofs.Common.{◌≡◌, List, [], ◌∷◌, length, refl, ap}
use lib.ListN.{length-map}
use lib.Ieee.{Float}
use Rattle.samples.specs.Sample.{sample_of16, sample_of_f32, samples_of_f32}
use Rattle.samples.specs.Kinds.{Samples, i16s, f32s, size_of, as_f64, as_f32}

pub size_f64 : (samples : Samples) → length (as_f64 samples) ≡ size_of samples
unfolding as_f64 size_of
size_f64 (i16s samples) = length-map samples sample_of16
size_f64 (f32s samples) = length-map samples sample_of_f32

pub size_f32 : (samples : Samples) → length (as_f32 samples) ≡ size_of samples
unfolding as_f32 size_of
size_f32 (i16s samples) = length-map samples sample_of16
size_f32 (f32s samples) = refl

-- f32 samples as they stand
pub as_they_stand : (samples : List Float) → samples_of_f32 samples ≡ samples
as_they_stand [] = refl
as_they_stand (x ∷ rest) = ap (λ (t : List Float). x ∷ t) (as_they_stand rest)
