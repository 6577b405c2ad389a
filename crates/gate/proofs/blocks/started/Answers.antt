-- `blocks::started` meets its contract: 0 leaves 0 as it is. Assumes nothing.
use Rattle.gate.proofs.Nothing.{nothing_steady}
use Rattle.gate.proofs.blocks.started.Goals as goal

pub from_bin-totals-requires : goal.from_bin-totals-requires
from_bin-totals-requires c = nothing_steady
