-- `order_split::split_sort` meets its contract: what is split, and ordered on both sides, is in order. Assumes nothing.
use mathlib.Core.Path.{◌∙◌}
use mathlib.Core.List.{◌++◌}
use Prim.Native.Nat.{◌-◌}
use native.Mathlib.Omega.{arith}
use lib.Dec.{T}
use lib.ListN.{length, drop}
use lib.Ieee.Positive.{above}
use Rattle.order_rules.proofs.Perms.{all_perm, all_take, all_drop}
use Rattle.order_rules.proofs.InOrder.{in_order_lem}
use Rattle.order_rules.proofs.AllAbove.{all_above_lem}
use Rattle.order_rules.proofs.Answers.{ordered_by}
use Rattle.order_short.proofs.Answers.{short_order}
use Rattle.order_split.proofs.Joining.{first_side, both_sides}
use Rattle.order_split.proofs.+split_sort.Goals as goal

pub returns-then-n-le-SHORT : goal.returns-then-n-le-SHORT
returns-then-n-le-SHORT t c =
    let l = c.args.part.now in
    in_order_lem l c.order.new.energies c.requires (c.order.ensures.energies_after ∙ short_order l c.if-n-le-SHORT.true (all_above_lem l c.requires))

pub returns-then-budget-eq0 : goal.returns-then-budget-eq0
returns-then-budget-eq0 t c =
    let done = c.order-then-budget-eq0 in
    ordered_by c.args.part.now c.requires done.new.energies done.ensures.energies_after

pub split_sort-requires : goal.split_sort-requires
split_sort-requires t c =
    let done = c.split-settled in (
      omega (arith, c.decreases),
      all_take (λ x. T (above x)) done.result.start done.new.part (all_perm (λ x. T (above x)) done.ensures.same c.requires),
    )

pub split_sort-requires-2 : goal.split_sort-requires-2
split_sort-requires-2 t c =
    let cut = c.split-settled in
    let now = c.split_sort.new.part ++ drop cut.result.start cut.new.part in
    let to = cut.result.end in
    let first = first_side cut.ensures c.split_sort.new.part c.split_sort.ensures in (
      omega (arith, c.decreases),
      all_take (λ x. T (above x)) (length now - to) (drop to now)
          (all_drop (λ x. T (above x)) to now (all_perm (λ x. T (above x)) first.same c.requires)),
    )

pub returns : goal.returns
returns t c =
    let first = first_side c.split-settled.ensures c.split_sort.new.part c.split_sort.ensures in
    both_sides first c.split_sort-2.new.part c.split_sort-2.ensures
