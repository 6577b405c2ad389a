use Rattle.std.proofs.Common.{◌≡◌, length}
use Rattle.true_peak.specs.Inner.{room}
use Rattle.true_peak.proofs.Lines.{Recalled}
use Rattle.true_peak.proofs.recall.Given as goal

abbrev pub invariant-loop-k : goal.invariant-loop-k
invariant-loop-k l = (length l.line ≡ room) × Recalled l.memory l.line l.c l.k
