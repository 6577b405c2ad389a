use Prim.Native.Nat.{◌-◌}
use Rattle.bins.proofs.Scanning.{Scanned}
use Rattle.bins.proofs.search.find_histogram_index.Given as goal

abbrev pub invariant-loop-place : goal.invariant-loop-place
invariant-loop-place l = Scanned l.energy l.place

abbrev pub decreases-loop-place : goal.decreases-loop-place
decreases-loop-place l = 1000 - l.place
