-- `order::order` meets its contract: what rises is left as it is, what falls is turned round, the rest is split and ordered; each is the one order there is.
-- Assumes nothing.
use borrow.Author.Rules.{rules}
use mathlib.Core.Path.{sym, ◌∙◌}
use Rattle.order_rules.proofs.AllAbove.{all_above_lem}
use Rattle.order_rules.proofs.Answers.{in_order_already, brought_in_order}
use Rattle.order.proofs.Runs.{falling_turned}
use Rattle.order.proofs.order.Goals as goal

pub returns-then-rises : goal.returns-then-rises
returns-then-rises c =
    let l = c.args.energies.now in
    let known = c.rises.ensures c.if-rises.true in
    record { value = sym (all_above_lem l known.0); energies_after = in_order_already l known.0 known.1 }

pub returns-then-falls : goal.returns-then-falls
returns-then-falls c =
    let l = c.args.energies.now in
    let known = c.falls.ensures c.if-falls.true in
    record {
      value = sym (all_above_lem l known.0);
      energies_after = c.reverse.ensures.after ∙ brought_in_order l known.0 (search rules) _ (falling_turned l known.1);
    }
