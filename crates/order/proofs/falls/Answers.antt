-- `order::falls` meets its contract: the last energy is the lowest. Assumes nothing.
use Rattle.std.proofs.Common.{rules}
use Prim.Native.Nat.{suc}
use mathlib.Core.Path.{◌≡◌, sym, subst}
use mathlib.Core.Bool.{true}
use lib.Dec.{T}
use lib.Ieee.{le}
use Rattle.base_floats.specs.Entry.{at}
use Rattle.order.proofs.Runs.{sunk}
use Rattle.order.proofs.falls.Goals as goal

pub returns-then-last : goal.returns-then-last
returns-then-last c = λ e.
    let l = c.args.energies.now in
    sunk l
    (λ k h. let s = (c.all_pass.ensures e).each k h in let q : le (at l (suc k)) (at l k) ≡ true = search rules in subst T (sym q) tt)
    (search rules)
