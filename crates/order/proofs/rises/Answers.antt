-- `order::rises` meets its contract: the first energy is the lowest. Assumes nothing.
use Rattle.std.proofs.Common.{rules}
use Prim.Native.Nat.{suc}
use mathlib.Core.Path.{◌≡◌, sym, subst}
use mathlib.Core.Bool.{true}
use lib.Dec.{T}
use lib.Ieee.{le}
use Rattle.base_floats.specs.Entry.{at}
use Rattle.order.proofs.Runs.{climbed}
use Rattle.order.proofs.rises.Goals as goal

pub returns-then-first : goal.returns-then-first
returns-then-first c = λ e.
    let l = c.args.energies.now in
    climbed l
    (λ k h. let s = (c.all_pass.ensures e).each k h in let q : le (at l k) (at l (suc k)) ≡ true = search rules in subst T (sym q) tt)
    (search rules)
