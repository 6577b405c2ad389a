-- `bins_tables::all_boundaries` meets its contract: the constant is the table, bit for bit. Assumes nothing.
use borrow.Author.Rules.{rules}
use lib.Ieee.{of_bits}
use Rattle.bins_tables.specs.Tables.{boundaries}
use Rattle.bins_tables.proofs.all_boundaries.Statement.{statement}
use Rattle.bins_tables.proofs.all_boundaries.Tie as tie

returns : tie.Need-returns
unfolding boundaries of_bits
returns c = search rules

pub all_boundaries_spec : {M : Type 1} → statement M
all_boundaries_spec = tie.close (tie.spec returns)
