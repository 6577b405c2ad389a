-- `bins::energy` meets its contract: an entry of the table that was taken is the table's, and past its end both sides are NaN.
-- Assumes nothing.
use mathlib.Core.Path.{sym}
use borrow.Author.Rules.{rules}
use lib.Ieee.{div, of_bits}
use Rattle.bins_tables.proofs.Rules.{energy_past}
use Rattle.bins_tables.proofs.Taken.{energy_entry}
use Rattle.bins.proofs.energy.Goals as goal

pub returns-then-i-lt-BINS : goal.returns-then-i-lt-BINS
returns-then-i-lt-BINS c = energy_entry c.all_energies-energies.result c.args.i c.all_energies-energies.ensures

pub returns-else-i-lt-BINS : goal.returns-else-i-lt-BINS
unfolding div of_bits
returns-else-i-lt-BINS c = sym (energy_past c.args.i (search rules))
