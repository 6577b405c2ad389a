-- `Memory::load` meets its contract: five places next to each other, or none. Assumes nothing.
use Rattle.std.proofs.Common.{sym, arith, rules}
use lib.Ieee.{of_bits}
use Rattle.filter_recurrence.proofs.Memories.{memory_nowhere}
use Rattle.filter_recurrence.proofs.Memory.load.Goals as goal

pub returns-then-k : goal.returns-then-k
unfolding of_bits
returns-then-k c = let a = c.args in sym (memory_nowhere a.state.now a.k (omega arith) (search rules))
