-- `record_queue_reader::pattern_fits` meets its contract. Assumes nothing.
use Rattle.record_queue_reader.proofs.Patterns.{told_apart}
use Rattle.record_queue_reader.proofs.pattern_fits.Goals as goal

pub returns : goal.returns
returns c = rw c.finite_fits.ensures (told_apart c.args.pattern)
