-- `process` meets its contract: the arrays are the filter's, and the filter moves to what is left in them. Assumes nothing.
use Rattle.std.proofs.Common.{ap}
use Rattle.filter.specs.Call.{Kept}
use Rattle.filter_process.proofs.process.Goals as goal

pub returns : goal.returns
returns g c =
    let e = c.process_lent-answer.ensures in
    (e.0, ap (λ (k : Kept). k.filter) e.1, ap (λ (k : Kept). k.dest) e.1)
