-- What is left of a stretch as a channel's frames are gone through: each frame's place lies within it. Assumes nothing.
use Rattle.std.proofs.Common.{◌≡◌, ℕ, suc, ◌+◌, ◌-◌, ◌*◌, ◌<◌, ◌≤◌, ap, ◌∙◌, suc-mul, arith}
use Rattle.samples.specs.Stretches.{Reach}
use Rattle.samples.specs.Frames.{most_channels}

pub one_less : (n : ℕ) → 0 < n → n ≡ suc (n - 1)
one_less n h = omega arith

-- ---- what is left of a stretch

pub reach_start : (k channels count size : ℕ) → k < channels → channels ≤ most_channels → count * channels ≤ size → Reach k channels count size
reach_start k channels count size h few e = record { few = few; within = omega arith }

module _ (i step left size : ℕ) (some : 0 < left) (now : Reach i step left size) where
  times_less : left * step ≡ (left - 1) * step + step
  times_less = ap (λ (k : ℕ). k * step) (one_less left some) ∙ suc-mul (left - 1) step

  pub reach_here : i < size
  reach_here = omega (arith, times_less, now.within)

  pub reach_rest : Reach (i + step) step (left - 1) size
  reach_rest = record { few = now.few; within = omega (arith, times_less, now.within) }
