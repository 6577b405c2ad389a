-- Where a frame begins: inside the samples, or at their end. Assumes nothing.
use Rattle.std.proofs.Common.{ℕ, ◌*◌, ◌/◌, ◌≤◌, ◌<◌, arith, suc-mul, mul-le-mul_right, div-add-mod', mod-lt}

pub ends_before : (channels frame samples : ℕ) → 0 < channels → samples / channels < frame → samples ≤ frame * channels
ends_before channels frame samples p h =
    omega (arith, suc-mul (samples / channels) channels, mul-le-mul_right channels h, div-add-mod' samples channels, mod-lt samples p)

pub fits : (channels frame samples : ℕ) → frame ≤ samples / channels → frame * channels ≤ samples
fits channels frame samples h = omega (arith, mul-le-mul_right channels h, div-add-mod' samples channels)
