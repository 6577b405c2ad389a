use Rattle.std.proofs.Common.{◌≡◌, length}
use Rattle.true_peak.specs.Inner.{room}
use Rattle.true_peak.proofs.Lines.{Moved}
use Rattle.true_peak.proofs.carry.Given as goal

abbrev pub invariant-loop-k : goal.invariant-loop-k
invariant-loop-k l = (length l.line ≡ room) × Moved l.initial.line l.line l.n l.k
