-- `exports_bins::xel_reading` meets its contract: each case of the answer is told as the C interface tells it. Assumes nothing.
use mathlib.Core.Path.{◌≡◌, ◌∙◌}
use borrow.Author.Rules.{rules}
use mir.Syntax.{w32}
use mir.Val.{to_z, of_z}
use Rattle.base_refusals.specs.Refusal.{number}
use Rattle.bins.specs.Reading.{reading_of}
use Rattle.base_refusals.proofs.Told.{values_told, refusal_told}
use Rattle.exports_bins.proofs.xel_reading.Goals as goal

pub returns-in-Ok : goal.returns-in-Ok
returns-in-Ok c =
    let t = c.in-Ok.t in
    let same : to_z w32 (of_z w32 t) ≡ t = search rules in
    let told = values_told (reading_of c.args.energy) c.args.tenths.now t c.in-Ok.ensures in
    (told.0, same ∙ told.1)

pub returns-in-Err : goal.returns-in-Err
returns-in-Err c = rw c.from.ensures (refusal_told (reading_of c.args.energy) c.args.tenths.now (number c.in-Err.refusal) c.in-Err.ensures)
