-- `spans::gate_energy` meets its contract, by those of what it calls. Assumes nothing.
use Rattle.range_ranks.proofs.spans.gate_energy.Goals as goal

pub returns : goal.returns
returns c = rw (c.nearest_u64_to_f64.ensures, c.gate_share.ensures)
