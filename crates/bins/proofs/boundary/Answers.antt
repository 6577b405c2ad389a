-- `bins::boundary` meets its contract: an entry of the table that was taken is the table's, and past its end both sides are NaN.
-- Assumes nothing.
use mathlib.Core.Path.{sym}
use borrow.Author.Rules.{rules}
use lib.Ieee.{div, of_bits}
use Rattle.bins_tables.proofs.Rules.{boundary_past}
use Rattle.bins_tables.proofs.Taken.{boundary_entry}
use Rattle.bins.proofs.boundary.Goals as goal

pub returns-then-i-le-BINS : goal.returns-then-i-le-BINS
returns-then-i-le-BINS c = boundary_entry c.all_boundaries-boundaries.result c.args.i c.all_boundaries-boundaries.ensures

pub returns-else-i-le-BINS : goal.returns-else-i-le-BINS
unfolding div of_bits
returns-else-i-le-BINS c = sym (boundary_past c.args.i (search rules))
