-- `order_split::order` meets its contract: what is not all above zero stays, the rest comes to the one order there is. Assumes nothing.
use mathlib.Core.Path.{sym, ◌∙◌}
use borrow.Author.Rules.{rules}
use Rattle.order_rules.proofs.AllAbove.{above_all}
use Rattle.order_rules.proofs.Answers.{brought_in_order}
use Rattle.order_split.proofs.order.Goals as goal
use Rattle.order_split.proofs.order.Goals.{Then-all_above}

pub split_sort-requires : goal.split_sort-requires
split_sort-requires c = above_all c.args.energies.now (sym c.all_above.ensures ∙ c.if-all_above.true)

pub returns-then-all_above-clause-energies_after : goal.returns-then-all_above-clause-energies_after
returns-then-all_above-clause-energies_after c =
    let l = c.args.energies.now in
    brought_in_order l (above_all l (sym c.all_above.ensures ∙ c.if-all_above.true)) (search rules) _ c.split_sort.ensures
