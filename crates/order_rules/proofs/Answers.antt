-- The answers of whatever orders energies in place, where all are above zero: energies that rise already, and energies that are brought in order.
-- Assumes nothing.
use mathlib.Core.Path.{◌≡◌, sym, ap, ◌∙◌}
use mathlib.Core.Bool.{Bool, cond}
use mathlib.Core.List.{List}
use Prim.Native.Nat.{ℕ}
use lib.Dec.{T}
use lib.Ieee.{Float, fits, binary64}
use Rattle.order_rules.specs.Order.{in_order, ordered}
use Rattle.base_floats.specs.Entry.{at}
use Rattle.order_rules.specs.Arrangement.{Above, Rising, Ordered}
use Rattle.order_rules.proofs.InOrder.{energies, in_order_lem, rising_is, the_order}
use Rattle.order_rules.proofs.AllAbove.{all_above_lem}

module _ (l : List Float) (a : Above l) where
  is_in_order : ordered l ≡ in_order l
  is_in_order = ap (λ (b : Bool). cond b (in_order l) l) (all_above_lem l a)

  pub in_order_already : Rising l → l ≡ ordered l
  in_order_already r = sym (is_in_order ∙ rising_is l r)

  pub brought_in_order : ((i : ℕ) → T (fits binary64 (at l i))) → (new : List Float) → Ordered l new → new ≡ ordered l
  brought_in_order f new o = the_order o (energies l a f) ∙ sym is_in_order

  -- what a caller with energies above zero gets
  pub ordered_by : (new : List Float) → new ≡ ordered l → Ordered l new
  ordered_by new e = in_order_lem l new a (e ∙ is_in_order)
