-- The worked cases that 01 marks P, "proved together as a single table", by one computed check. Assumes nothing.
use mathlib.Core.Path.{refl}
use lib.Ieee.{of_bits, round, le, mul, add, sub, div, of_int}
use Rattle.bins_tables.specs.Tables.{boundary_bits, boundaries, boundary_at}
use Rattle.bins.specs.Bin.{last_not_above, bin_of}
use Rattle.samples.specs.Sample.{sample_in}
use Rattle.filter_recurrence.specs.Recurrence.{next, out, outs}
use Rattle.acceptance_worked.specs.Worked.{AllRight}

pub worked : AllRight
unfolding bin_of last_not_above boundary_at boundaries boundary_bits of_bits le round sample_in div of_int mul add sub outs out next
worked = refl
