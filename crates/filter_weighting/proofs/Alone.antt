-- One channel alone: its outputs are its own, in its own part of the destination, and every place that no used channel's outputs reach stays.
-- So one channel's samples never alter another channel's part of the destination. Assumes nothing.
use Prim.Native.Nat.{ℕ, ◌+◌, ◌*◌, ◌/◌, ◌≤◌, ◌<◌}
use native.Mathlib.Omega.{arith}
use mathlib.Core.Path.{◌≡◌, sym, subst, ◌∙◌}
use mathlib.Core.Bool.{true}
use mathlib.Core.Logic.{◌⊎◌}
use mathlib.Core.List.{List}
use lib.ListN.{length, get_or}
use lib.Ieee.{Float}
use Rattle.samples.specs.Frames.{frames_of, channel_of}
use Rattle.samples.proofs.Columns.{length_column}
use Rattle.filter_checks.specs.Calls.{used}
use Rattle.filter_recurrence.specs.Recurrence.{outs}
use Rattle.filter_recurrence.specs.Channels.{Weighing, heard, memory_of}
use Rattle.filter_recurrence.proofs.Moving.{length_outs}
use Rattle.filter_weighting.specs.Weighting.{dest_after}
use Rattle.filter_weighting.proofs.Destinations.{parts_own, parts_stay}

module _ (call : Weighing) (dest : List Float) (start : ℕ) where
  -- channel k's outputs
  abbrev pub given : ℕ → List Float
  given k = outs call.coefficients.a call.coefficients.b (memory_of call.state.values k) (heard call k)

  abbrev pub frames : ℕ
  frames = frames_of call.channels (length call.samples)

  -- the places of one channel's equal part
  abbrev pub part : ℕ
  part = length dest / call.channels

  heard_length : (k : ℕ) → length (heard call k) ≡ frames
  unfolding channel_of
  heard_length k = length_column call.samples k call.channels frames

  given_length : (k : ℕ) → length (given k) ≡ frames
  given_length k = length_outs call.coefficients.a call.coefficients.b (memory_of call.state.values k) (heard call k) ∙ heard_length k

  -- output f of a used channel k
  pub own_part : start + frames ≤ part → length call.map * part ≤ length dest → (k f : ℕ) (x : Float) → k < length call.map → f < frames
      → used (get_or call.map k 0) ≡ true → get_or (dest_after call dest start) (k * part + start + f) x ≡ get_or (given k) f x
  unfolding dest_after
  own_part fit room k f x h q u =
      let e : 0 + k ≡ k = omega arith in
      let z : 0 + length call.map ≡ length call.map = omega arith in
      subst (λ (j : ℕ). get_or (dest_after call dest start) (j * part + start + f) x ≡ get_or (given j) f x) e
      (parts_own given part start frames given_length fit call.map 0 k f dest x h q (subst (λ (n : ℕ). n * part ≤ length dest) (sym z) room) u)

  -- every place that no used channel's outputs reach
  pub other_places : (p : ℕ) (x : Float)
      → ((i : ℕ) → i < length call.map → used (get_or call.map i 0) ≡ true → p < (0 + i) * part + start ⊎ (0 + i) * part + start + length (given (0 + i)) ≤ p)
      → get_or (dest_after call dest start) p x ≡ get_or dest p x
  unfolding dest_after
  other_places p x h = parts_stay given part start call.map 0 dest p x h
