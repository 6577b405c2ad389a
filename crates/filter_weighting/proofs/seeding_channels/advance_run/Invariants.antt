use Rattle.std.proofs.Common.{◌≡◌, ℕ, List, length, drop}
use lib.Ieee.{Float}
use Rattle.filter_recurrence.specs.Channels.{memory_of, with_memory, each_used}
use Rattle.filter_recurrence.proofs.Runs.{hears}
use Rattle.filter_weighting.proofs.seeding_channels.advance_run.Given as goal

-- channel k's memory after its frames, in the state
abbrev moves : List Float → List Float → ℕ → ℕ → List Float → List Float
moves a run channels k v = with_memory v k (hears a channels run k (memory_of v k))

abbrev pub invariant-loop-k : goal.invariant-loop-k
invariant-loop-k l =
    let step = moves l.a l.run (length l.bytes) in
    each_used step (drop l.k l.bytes) l.k l.state ≡ each_used step l.bytes 0 l.initial.state
