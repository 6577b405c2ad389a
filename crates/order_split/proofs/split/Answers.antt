-- `order_split::split` meets its contract: what goes before the pivot is below it; where nothing does, the pivot is the lowest, and its equals are gathered.
-- Assumes nothing.
use Prim.Native.Nat.{ℕ, ◌+◌, ◌-◌}
use native.Mathlib.Omega.{arith}
use borrow.Author.Rules.{rules}
use mathlib.Core.Path.{◌≡◌, refl, sym, subst}
use mathlib.Core.Bool.{true, false}
use lib.Dec.{T}
use lib.Ieee.{nan, le, lt}
use lib.Ieee.Positive.{above}
use Rattle.base_floats.proofs.Order.{lt→le}
use Rattle.order_rules.proofs.Energies.{not_below_lem, not_at_most}
use Rattle.order_rules.proofs.Perms.{all_perm}
use Rattle.order_split.specs.Inner.{Parted}
use Rattle.order_split.proofs.Parting.{parted, parted_equal}
use Rattle.order_split.proofs.Joining.{parted_from, lowest_of}
use Rattle.order_split.proofs.split.Goals as goal

pub gather-place-requires-clause-splits : goal.gather-place-requires-clause-splits
gather-place-requires-clause-splits c = record {
  passed = λ x p a b h. let e : lt x p ≡ true = search rules in lt→le x p (subst T (sym e) tt);
  failed = λ x p a b h. let e : lt x p ≡ false = search rules in not_below_lem x p a b e;
}

-- the pivot goes to the front, and then to its own place
pub returns-then-place-gt0 : goal.returns-then-place-gt0
returns-then-place-gt0 c = parted c.gather-place.ensures (omega arith) c.swap.new.self (c.swap.ensures.by_index.3 nan)

pub gather-equal-requires-clause-splits : goal.gather-equal-requires-clause-splits
gather-equal-requires-clause-splits c = record {
  passed = λ x p a b h. let e : le x p ≡ true = search rules in subst T (sym e) tt;
  failed = λ x p a b h. let e : le x p ≡ false = search rules in not_at_most x p a b e;
}

-- where nothing went before the pivot it stands first
pub returns : goal.returns
returns c =
    let place = c.gather-place.result - 1 in
    let none : place ≡ 0 = omega arith in
    let apart = parted c.gather-place.ensures (omega arith) c.swap.new.self (c.swap.ensures.by_index.3 nan) in
    let first = subst (λ (r : ℕ). Parted r (r + 1) c.args.part.now c.swap.new.self) none apart in
    parted_from first.same (parted_equal c.gather-equal.ensures (omega arith) (lowest_of (all_perm (λ x. T (above x)) first.same c.requires.1) first) refl)
