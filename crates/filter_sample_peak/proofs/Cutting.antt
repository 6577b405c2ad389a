-- Samples in parts of whole frames: the largest magnitude of a part's frames, and then of those after it, is that of all of them. Assumes nothing.
use Rattle.std.proofs.Common.{◌≡◌, ℕ, ◌*◌, ◌/◌, ◌<◌, List, ◌++◌, length, sym, ap, ◌∙◌}
use lib.Ieee.{Float}
use Rattle.samples.specs.Frames.{column}
use Rattle.samples.proofs.Parts.{cut_column}
use Rattle.base_floats.specs.Largest.{largest}
use Rattle.base_floats.proofs.Magnitude.{largest_append}

-- n turns of so many places, and what follows them
pub largest_cut : (a b : List Float) (step n : ℕ) → length a ≡ n * step → (top : Float) (j : ℕ) → j < step
    → largest (largest top (column a j step n)) (column b j step (length b / step)) ≡ largest top (column (a ++ b) j step (length (a ++ b) / step))
largest_cut a b step n e top j h =
    sym (largest_append top (column a j step n) (column b j step (length b / step))) ∙ ap (largest top) (cut_column a b step n e j h)
