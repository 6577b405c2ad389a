-- `exports_filter::xel_seed_i16` meets its contract: the filter is that of the numbers and arrays, with peaks of 0, its samples are those of this kind, and what the call comes to is told. Assumes nothing.
use lib.Ieee.{of_bits}
use Rattle.samples.specs.Kinds.{i16s}
use Rattle.filter.specs.Filter.{no_peaks, resting, with_arrays}
use Rattle.filter.specs.Call.{seed_of, Kept}
use Rattle.filter.specs.Seed.{seeded}
use Rattle.exports_filter.specs.Switches.{switches_of}
use Rattle.exports_filter.proofs.Told.{told}
use Rattle.exports_filter.proofs.xel_seed_i16.Goals as goal

pub returns : goal.returns
unfolding of_bits
returns c =
    let a = c.args in
    let filter =
    with_arrays (resting a.channels a.rate (switches_of a.on) (record { a = a.a.now; b = a.a.now }))
    (record { state = a.state.now; peaks = no_peaks; memory = a.memory.now; true_peaks = no_peaks }) in
    told seeded (λ (k : Kept). k.filter) c.seed_lent-answer.result c.number_of.ensures (seed_of filter (i16s a.«data».now) a.map.now) (rw c.switches_of.ensures at c.seed_lent-answer.ensures)
