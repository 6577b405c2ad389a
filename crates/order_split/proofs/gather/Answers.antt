-- `order_split::gather` meets its contract. The invariant is `Parting`, and each turn keeps it, whichever way the test goes. Assumes nothing.
use native.Mathlib.Omega.{arith}
use lib.Dec.{T}
use lib.ListN.{length}
use lib.Ieee.{nan}
use lib.Ieee.Positive.{above}
use Rattle.order_rules.specs.Arrangement.{Reordered}
use Rattle.order_rules.proofs.Perms.{exchanged_perm, all_perm}
use Rattle.order_split.proofs.Parting.{part_start, is_gathered, is_left, parting_from}
use Rattle.order_split.proofs.gather.Goals as goal
use Rattle.order_split.proofs.gather.Goals.{then-comes_first, else-comes_first}

pub loop-i-init : goal.loop-i-init
loop-i-init g c =
    let turned : Reordered c.args.part.now c.swap.new.self =
    exchanged_perm c.args.part.now c.swap.new.self 0 c.args.place (omega arith) c.requires.inside (c.swap.ensures.by_index.3 nan) in
    part_start c.swap.new.self (omega arith) (all_perm (λ x. T (above x)) turned c.requires.above)

pub loop-i-preserved : goal.loop-i-preserved
loop-i-preserved g c =
    elim c.if-comes_first.branch [
      | then-comes_first w ↦ rw w.low-is (is_gathered c.loop-i.invariant (omega arith) c.requires.splits w.if-comes_first.ensures)
      | else-comes_first w ↦ rw w.low-is (is_left c.loop-i.invariant (omega arith) c.requires.splits w.if-comes_first.ensures)
    ]

pub returns : goal.returns
returns g c =
    let turned : Reordered c.args.part.now c.swap.new.self =
    exchanged_perm c.args.part.now c.swap.new.self 0 c.args.place (omega arith) c.requires.inside (c.swap.ensures.by_index.3 nan) in
    parting_from {new = c.loop-i.part} turned (c.swap.ensures.by_index.0 nan) (length c.loop-i.part) (omega arith) c.loop-i.invariant
