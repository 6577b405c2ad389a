-- `spans::energy_of` meets its contract: an entry of the lent table is the energies', and past its end both sides are NaN. Assumes nothing.
use Rattle.std.proofs.Common.{sym, rules}
use lib.Ieee.{div, of_bits}
use Rattle.bins_tables.proofs.Rules.{energy_past}
use Rattle.bins_tables.proofs.Taken.{energy_entry}
use Rattle.range_ranks.proofs.spans.energy_of.Goals as goal

pub returns-then-bin-lt1000 : goal.returns-then-bin-lt1000
returns-then-bin-lt1000 c = let w = c in energy_entry w.args.table.now w.args.bin w.requires

pub returns-else-bin-lt1000 : goal.returns-else-bin-lt1000
unfolding div of_bits
returns-else-bin-lt1000 c = sym (energy_past c.args.bin (search rules))
