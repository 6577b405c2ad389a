-- `range_queues::copy_held` meets its contract: what an entry holds stands in two parts, which are copied one after the other. Assumes nothing.
use Rattle.std.proofs.Common.{◌≡◌, ◌+◌, ◌++◌, List, Float, length, refl, ap, ◌∙◌, arith}
use lib.Seq.{sets}
use Rattle.range_queues.specs.Inner.{held_at}
use Rattle.range_queues.proofs.Standing.{stand_in}
use Rattle.range_queues.proofs.Looking.{parts_count, parts_set}
use Rattle.range_queues.proofs.copy_held.Goals as goal
use Rattle.range_queues.proofs.copy_held.Goals.{After-held_parts}

held : (p : After-held_parts) → p.held_parts.result.0.now ++ p.held_parts.result.1.now ≡ held_at p.args.energies.now p.args.entry
held p = p.held_parts.ensures.0 ∙ stand_in p.args.energies.now p.args.entry.shape p.requires.0 p.requires.1

count : (p : After-held_parts) → length (held_at p.args.energies.now p.args.entry) ≡ length p.held_parts.result.0.now + length p.held_parts.result.1.now
count p = parts_count p.args.energies.now p.args.entry p.held_parts.result.0.now p.held_parts.result.1.now (held p)

pub overflow_add-middle : goal.overflow_add-middle
overflow_add-middle c = omega (arith, count (goal.at.overflow_add-middle c).After-held_parts, c.requires.2)

pub copy-requires : goal.copy-requires
copy-requires c = omega (arith, count (goal.at.copy-requires c).After-held_parts, c.requires.2)

pub copy-requires-2 : goal.copy-requires-2
copy-requires-2 c = omega (arith, count (goal.at.copy-requires-2 c).After-held_parts, c.requires.2, c.copy.auto)

pub overflow_add-result : goal.overflow_add-result
overflow_add-result c = omega (arith, count (goal.at.overflow_add-result c).After-held_parts, c.requires.2)

pub returns : goal.returns
returns c =
    let parts = c.held_parts.result in
    let middle = c.args.at + length parts.0.now in
    let is = held (goal.at.returns c).After-held_parts in (
      c.copy-2.ensures
          ∙ ap (λ (w : List Float). sets w middle parts.1.now) c.copy.ensures
          ∙ parts_set c.args.energies.now c.args.entry parts.0.now parts.1.now is c.args.work.now c.args.at middle refl,
      omega (arith, count (goal.at.returns c).After-held_parts),
    )
