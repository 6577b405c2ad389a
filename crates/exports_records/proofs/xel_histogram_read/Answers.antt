-- `exports_records::xel_histogram_read` meets its contract: what the answer says is told by its number. Assumes nothing.
use mathlib.Core.Path.{◌∙◌}
use Rattle.record_histogram.specs.Record.{read_histogram}
use Rattle.base_refusals.proofs.Told.{answer_told}
use Rattle.exports_records.proofs.xel_histogram_read.Goals as goal

pub returns : goal.returns
returns c =
    let given = c.args in
    let call = c.read_histogram in
    (c.number_of.ensures ∙ answer_told (read_histogram given.bytes.now given.counters.now) call.result call.ensures.0, call.ensures.1)
