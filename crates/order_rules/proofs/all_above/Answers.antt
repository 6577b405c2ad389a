-- `order_rules::all_above` meets its contract: where `all` holds each energy passes, else one does not. Assumes nothing.
use Rattle.std.proofs.Common.{rules}
use borrow.Author.Tests.{tests}
use Rattle.std.proofs.lemmas.Iterator.{cases_from_all, YieldsList-from_slice}
use mathlib.Core.Path.{◌≡◌}
use mathlib.Core.Bool.{true, false}
use lib.Ieee.{lt, of_bits, binary64}
use Rattle.order_rules.proofs.AllAbove.{above_by_places}
use Rattle.order_rules.proofs.all_above.Goals as goal

pub returns : goal.returns
returns c = above_by_places c.args.energies.now c.all.result
    (cases_from_all _ _ _ (λ x. lt (of_bits binary64 0) x ≡ true) (λ x. lt (of_bits binary64 0) x ≡ false) c.all.ensures.ran (YieldsList-from_slice c.args.energies.now cc)
    (λ x q k. search (rules, tests)) (λ x q k. search (rules, tests)))
