-- `kept::add_blocks` meets its contract: an energy is a block at most. Assumes nothing.
use Rattle.std.proofs.Common.{get_or, arith}
use lib.Ieee.{nan}
use Rattle.gate.proofs.Keeping.{one_more_lem}
use Rattle.gate.proofs.kept.add_blocks.Goals as goal

pub overflow_add-count : goal.overflow_add-count
overflow_add-count c =
    omega (arith, one_more_lem c.args.threshold (get_or c.args.energies.now c.loop-energy.energy-index nan) c.kept_blocks-count.result c.kept_blocks-count.ensures)
