-- `bins::highest_boundary` meets its contract: the constant is the table's entry 1000, bit for bit. Assumes nothing.
use borrow.Author.Rules.{rules}
use lib.Ieee.{of_bits}
use Rattle.bins_tables.specs.Tables.{boundary_at}
use Rattle.bins.proofs.highest_boundary.Goals as goal

pub returns : goal.returns
unfolding boundary_at of_bits
returns c = search rules
