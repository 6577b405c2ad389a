-- `Memory::flushed` meets its contract: each of the five values is flushed. Assumes nothing.
use Rattle.filter_recurrence.specs.Recurrence.{flushed}
use Rattle.filter_recurrence.proofs.Memory.flushed.Goals as goal

pub returns : goal.returns
unfolding flushed
returns c = cc
