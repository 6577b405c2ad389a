-- `order::stretch_passes` meets its contract. The invariant: where `fine` holds, the test passed up to what is left. Assumes nothing.
use Rattle.std.proofs.Common.{rules}
use mathlib.Core.Bool.{and-eq-true_iff}
use Prim.Native.Nat.{◌-◌}
use native.Mathlib.Omega.{arith}
use lib.ListN.{length}
use lib.Ieee.{nan}
use Rattle.std.specs.Slice.Iter.{windows_rest}
use Rattle.std.proofs.lemmas.Iterator.{window_more}
use Rattle.order.proofs.Runs.{pair_on}
use Rattle.order.proofs.stretch_passes.Goals as goal

pub loop-pair-preserved : goal.loop-pair-preserved
loop-pair-preserved g c =
    let l = c.args.energies.now in
    let i = length l - length (windows_rest c.loop-pair.pair-iterator) in
    let h = window_more l c.loop-pair.pair-iterator c.next.new.self _ _ c.in-Some.is c.next.ensures.steps (search rules) (search rules) (search rules) in (
      search rules,
      omega (arith, h.0),
      h.1,
      λ e.
          let both = (and-eq-true_iff c.loop-pair.fine c.test-fine.result).0 e in
          pair_on l i (c.loop-pair.invariant.3 both.0) _ _ c.test-fine.result c.test-fine.ensures (h.3 0 nan (search rules)) (h.3 1 nan (search rules)) both.1 _
          (omega (arith, h.0)),
    )
