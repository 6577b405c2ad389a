-- `Memory::store` meets its contract: five stores at places next to each other are a run of stores, and past the end there is no place. Assumes nothing.
use Rattle.std.proofs.Common.{◌*◌, sym, arith, rules}
use Rattle.samples.proofs.Stores.{five_stores}
use Rattle.filter_recurrence.specs.Channels.{with_memory}
use Rattle.filter_recurrence.proofs.Memories.{with_nowhere}
use Rattle.filter_recurrence.proofs.Memory.store.Goals as goal

pub returns-then-k : goal.returns-then-k
returns-then-k c = let a = c.args in sym (with_nowhere a.state.now a.k (omega arith) (search rules) a.self)

pub returns : goal.returns
unfolding with_memory
returns c = let a = c.args in five_stores a.state.now (a.k * 5) _ _ _ _ _
