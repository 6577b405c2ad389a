-- The phases of the frames of a line: a channel's samples, oldest first, in which each frame's window is a run.
use Rattle.std.specs.Prelude.{List, [], ◌∷◌, ◌++◌, ℕ, zero, suc, ◌+◌, get_or, Float}
use Rattle.std.specs.Float.{nan}
use Rattle.true_peak_interp.specs.Interp.{twofold}

-- how many frames are taken at a time
abbrev pub stretch : ℕ
stretch = 128

-- n samples of a line back from place at + n - 1 down to place at: newest first
unfoldable pub back : List Float → ℕ → ℕ → List Float
back l at zero = []
back l at (suc n) = get_or l (at + n) nan ∷ back l at n

-- the phases of n frames of a line, in order, the first window beginning at place `at`, where `phases` are those of a window
unfoldable pub phases_over : (List Float → List Float) → List Float → ℕ → ℕ → List Float
phases_over phases l at zero = []
phases_over phases l at (suc n) = phases (back l at twofold.taps) ++ phases_over phases l (suc at) n
