use Rattle.std.proofs.Common.{◌≡◌, ◌-◌, ◌≤◌, true, length, drop}
use Rattle.std.specs.Slice.Iter.{windows_size, windows_rest}
use Rattle.order.specs.Inner.{Steps}
use Rattle.order.proofs.stretch_passes.Given as goal

abbrev pub invariant-loop-pair : goal.invariant-loop-pair
invariant-loop-pair g l =
    let rest = windows_rest l.pair-iterator in
    let i = length l.energies - length rest in
    (windows_size l.pair-iterator ≡ 2) × (length rest ≤ length l.energies) × (rest ≡ drop i l.energies)
    × (l.fine ≡ true → Steps (goal.F-post g l.test) i l.energies)
