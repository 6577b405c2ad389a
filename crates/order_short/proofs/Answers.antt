-- What `order` comes to where there are few energies and all are above zero: the caller's case. Assumes nothing.
use mathlib.Core.Path.{◌≡◌, ap, ◌∙◌}
use mathlib.Core.Bool.{Bool, true, false, cond}
use mathlib.Core.List.{List}
use Prim.Native.Nat.{◌≤◌}
use borrow.Author.Tests.{le-ltb}
use lib.ListN.{length}
use lib.Ieee.{Float}
use Rattle.order_rules.specs.Order.{in_order, all_above}
use Rattle.order_short.specs.Short.{short, short_above, short_ordered}

module _ (l : List Float) where
  few : length l ≤ short → short_above l ≡ all_above l
  few h = ap (λ (b : Bool). cond b false (all_above l)) (le-ltb short (length l) h)

  pub short_order : length l ≤ short → all_above l ≡ true → short_ordered l ≡ in_order l
  short_order h e = ap (λ (b : Bool). cond b (in_order l) l) (few h ∙ e)
