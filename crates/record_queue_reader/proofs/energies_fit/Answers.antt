-- `record_queue_reader::energies_fit` meets its contract: energies that are all finite fit. Assumes nothing.
use Rattle.std.proofs.Common.{◌∙◌, ◌/◌, sym, length}
use Rattle.record_layout.specs.Layout.{numbers_in}
use Rattle.record_queue_reader.specs.Inner.{finite_fits}
use Rattle.record_queue_reader.proofs.Patterns.{finite_fit}
use Rattle.record_queue_reader.proofs.energies_fit.Goals as goal

pub returns-then-every : goal.returns-then-every
returns-then-every c =
    let fields = c.args.fields.now in
    let found = c.if-every.true in
    found
    ∙ sym (finite_fit (numbers_in c.args.order 8 (length fields / 8) fields) (sym (c.every.ensures finite_fits (λ pattern passes e. e)) ∙ found))
