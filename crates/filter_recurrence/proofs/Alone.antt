-- One channel alone: its memory after a call is its own before it and its own samples, whatever the other channels hold.
-- So one channel's samples never alter another channel's state. Assumes nothing.
use Prim.Native.Nat.{ℕ, ◌+◌, ◌<◌}
use native.Mathlib.Omega.{arith}
use mathlib.Core.Path.{◌≡◌, subst}
use mathlib.Core.Bool.{cond}
use lib.ListN.{length, get_or}
use Rattle.filter_checks.specs.Calls.{used}
use Rattle.filter_recurrence.specs.Recurrence.{after, flushed}
use Rattle.filter_recurrence.specs.Channels.{Weighing, state_places, memory_of, heard, state_after}
use Rattle.filter_recurrence.proofs.Memories.{over_own}
use Rattle.samples.specs.Frames.{most_channels}

pub own_state : (call : Weighing) (k : ℕ) → k < length call.map → k < most_channels → length call.state.values ≡ state_places
    → memory_of (state_after call) k
    ≡ cond (used (get_or call.map k 0)) (flushed (after call.coefficients.a (memory_of call.state.values k) (heard call k))) (memory_of call.state.values k)
unfolding state_after
own_state call k h few l =
    let e : 0 + k ≡ k = omega arith in
    let v = call.state.values in
    subst (λ (j : ℕ). memory_of (state_after call) j ≡ cond (used (get_or call.map k 0)) (flushed (after call.coefficients.a (memory_of v j) (heard call j))) (memory_of v j)) e
    (over_own (λ j m. flushed (after call.coefficients.a m (heard call j))) call.map 0 k v h (omega arith) l)
