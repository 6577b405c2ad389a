use Rattle.std.proofs.Common.{◌≡◌, ◌≤◌, ◌+◌, Bool, Float, drop}
use Rattle.order_short.specs.Inner.{count}
use Rattle.order_short.proofs.count.Given as goal

abbrev pub invariant-loop-energy : goal.invariant-loop-energy
invariant-loop-energy g l = record {
  few : l.found ≤ l.energy-index;
  counted : (p : Float → Bool) → ((x : Float) (b : Bool) → goal.F-post g l.test x b → b ≡ p x) → l.found + count p (drop l.energy-index l.energies) ≡ count p l.energies;
}
