use Rattle.std.proofs.Common.{◌≡◌, ℕ, List, drop}
use lib.Ieee.{Float}
use Rattle.filter_recurrence.specs.Recurrence.{flushed}
use Rattle.filter_recurrence.specs.Channels.{memory_of, with_memory, each_used}
use Rattle.filter_recurrence.proofs.flushing.flush_used.Given as goal

-- channel k's memory flushed in the state
abbrev flushes : ℕ → List Float → List Float
flushes k v = with_memory v k (flushed (memory_of v k))

abbrev pub invariant-loop-k : goal.invariant-loop-k
invariant-loop-k l = each_used flushes (drop l.k l.map) l.k l.state ≡ each_used flushes l.map 0 l.initial.state
