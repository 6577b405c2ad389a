-- What each kind of samples proves of itself (`Sample`): a sample becomes one float, and a call's floats are those of its samples. Assumes nothing.
use Rattle.std.specs.Prelude.{◌≡◌, List, [], ◌∷◌, length, map, ℤ, refl, Float}
use Rattle.std.proofs.Common.{ap}
use Rattle.samples.specs.Sample.{sample_of16, sample_of_f32}
use Rattle.samples.specs.Kinds.{i16s, f32s, size_of, as_f64, as_f32}

pub i16_size : (samples : List ℤ) → size_of (i16s samples) ≡ length samples
unfolding size_of
i16_size samples = refl

pub i16_f64 : (samples : List ℤ) → as_f64 (i16s samples) ≡ map sample_of16 samples
unfolding as_f64
i16_f64 samples = refl

pub i16_f32 : (samples : List ℤ) → as_f32 (i16s samples) ≡ map sample_of16 samples
unfolding as_f32
i16_f32 samples = refl

pub f32_size : (samples : List Float) → size_of (f32s samples) ≡ length samples
unfolding size_of
f32_size samples = refl

pub f32_f64 : (samples : List Float) → as_f64 (f32s samples) ≡ map sample_of_f32 samples
unfolding as_f64
f32_f64 samples = refl

-- f32 samples stand as they are
pub f32_f32 : (samples : List Float) → as_f32 (f32s samples) ≡ map (λ x. x) samples
unfolding as_f32
f32_f32 [] = refl
f32_f32 (x ∷ rest) = ap (λ (t : List Float). x ∷ t) (f32_f32 rest)
