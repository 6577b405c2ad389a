use mathlib.Core.Path.{◌≡◌}
use Prim.Native.Nat.{◌+◌, ◌*◌, ◌-◌}
use lib.Seq.{sets}
use Rattle.true_peak_state.specs.Channel.{past}
use Rattle.true_peak_scan.specs.Line.{back}
use Rattle.true_peak.proofs.keep.Given as goal

abbrev pub invariant-loop-k : goal.invariant-loop-k
invariant-loop-k l = sets l.memory (l.c * past + l.k) (back l.line 0 (past - l.k)) ≡ sets l.initial.memory (l.c * past) (back l.line 0 past)
