-- `bins_tables::all_energies` meets its contract: the constant is the table, bit for bit. Assumes nothing.
use borrow.Author.Rules.{rules}
use lib.Ieee.{of_bits}
use Rattle.bins_tables.specs.Tables.{energies}
use Rattle.bins_tables.proofs.all_energies.Statement.{statement}
use Rattle.bins_tables.proofs.all_energies.Tie as tie

returns : tie.Need-returns
unfolding energies of_bits
returns c = search rules

pub all_energies_spec : {M : Type 1} → statement M
all_energies_spec = tie.close (tie.spec returns)
