-- The frames of a channel that are left after the first of them: they lie within the stretch, and from the largest of the first they give the largest of all. Assumes nothing.
use Prim.Native.Nat.{ℕ, ◌+◌, ◌-◌, ◌*◌, ◌≤◌}
use native.Mathlib.Omega.{arith}
use mathlib.Core.Path.{◌≡◌, ap, sym, ◌∙◌}
use mathlib.Core.List.{List}
use lib.Ieee.{Float}
use Rattle.samples.specs.Frames.{column}
use Rattle.samples.proofs.Columns.{column_append}
use Rattle.base_floats.specs.Largest.{largest}
use Rattle.samples.specs.Stretches.{Reach}
use Rattle.base_floats.proofs.Magnitude.{largest_append}

distributed : (m n step : ℕ) → (m + n) * step ≡ m * step + n * step
distributed m n step = omega arith

module _ (first step count size done : ℕ) (all : Reach first step count size) (part : done ≤ count) where
  split : done * step + (count - done) * step ≡ count * step
  split = let e : done + (count - done) ≡ count = omega arith in sym (distributed done (count - done) step) ∙ ap (λ (k : ℕ). k * step) e

  pub reach_after : Reach (first + done * step) step (count - done) size
  reach_after = record { few = all.few; within = omega (arith, all.within, split) }

pub after_first : (top high : Float) (stretch : List Float) (first step count done : ℕ) → done ≤ count → high ≡ largest top (column stretch first step done)
    → largest high (column stretch (first + done * step) step (count - done)) ≡ largest top (column stretch first step count)
after_first top high stretch first step count done part e =
    let m : done + (count - done) ≡ count = omega arith in
    ap (λ (t : Float). largest t (column stretch (first + done * step) step (count - done))) e
    ∙ sym (largest_append top (column stretch first step done) (column stretch (first + done * step) step (count - done)))
    ∙ ap (largest top) (sym (column_append stretch first step done (count - done)))
    ∙ ap (λ (k : ℕ). largest top (column stretch first step k)) m
