-- `exports_filter::xel_process_f32` meets its contract: the filter is that of the numbers and arrays, its samples are those of this kind, and what the call comes to is told. Assumes nothing.
use Rattle.samples.specs.Kinds.{f32s}
use Rattle.filter.specs.Filter.{resting, with_arrays}
use Rattle.filter.specs.Call.{Call, Kept}
use Rattle.filter.specs.Process.{processed}
use Rattle.exports_filter.specs.Switches.{switches_of}
use Rattle.exports_filter.proofs.Told.{told}
use Rattle.exports_filter.proofs.xel_process_f32.Goals as goal

pub returns : goal.returns
returns c =
    let a = c.args in
    let filter =
    with_arrays (resting a.channels a.rate (switches_of a.on) (record { a = a.a.now; b = a.b.now }))
    (record { state = a.state.now; peaks = a.peaks.now; memory = a.memory.now; true_peaks = a.true_peaks.now }) in
    let call : Call = record { filter = filter; samples = f32s a.«data».now; map = a.map.now; dest = a.dest.now; start = a.start } in
    told processed (λ (k : Kept). k) c.process_lent-answer.result c.number_of.ensures call (rw c.switches_of.ensures at c.process_lent-answer.ensures)
