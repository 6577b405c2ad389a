-- What the inner functions count on: the line of a channel's samples, which has its history, oldest first, and room for a stretch of frames after it; and an interpolator that is one of
-- the two, told by its factor.
use Rattle.std.specs.Prelude.{◌≡◌, ℕ, ◌+◌}
use Rattle.true_peak_interp.specs.declared.Interp.{Interp}
use Rattle.true_peak_interp.specs.Interp.{fourfold, twofold}
use Rattle.true_peak_scan.specs.Line.{stretch}
use Rattle.true_peak_state.specs.Channel.{past}

abbrev pub room : ℕ
room = past + stretch

abbrev pub OneOfTwo : Interp → Type 0
OneOfTwo i = (i.factor ≡ fourfold.factor → i.taps ≡ fourfold.taps) × ((i.factor ≡ fourfold.factor → ⊥) → (i.factor ≡ twofold.factor) × (i.taps ≡ twofold.taps))
