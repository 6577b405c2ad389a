use mathlib.Core.Path.{◌≡◌}
use mathlib.Core.Bool.{◌&&◌}
use lib.ListN.{drop}
use Rattle.order_rules.specs.Order.{all_above}
use Rattle.order_rules.specs.Arrangement.{All}
use Rattle.order_rules.proofs.InOrder.{Energy}
use Rattle.order_short.proofs.Ranking.{Placed}
use Rattle.order_short.proofs.put_in_place.Given as goal

abbrev pub invariant-loop-i : goal.invariant-loop-i
invariant-loop-i l = (l.fine && all_above (drop l.i l.part) ≡ all_above l.part) × (All Energy l.part → Placed l.i l.part l.places)
