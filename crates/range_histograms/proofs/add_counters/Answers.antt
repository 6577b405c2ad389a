-- `range_histograms::add_counters` meets its contract. The invariant: the counters before `bin` are sums, and the others are as they were. Assumes nothing.
use Rattle.std.proofs.Common.{◌≡◌, ℕ, ◌+◌, length, get_or, ap, ◌∙◌, arith}
use lib.ListN.{set}
use Rattle.history_histogram.proofs.Sums.{sums_all, sums_read, sums_turn}
use Rattle.range_histograms.proofs.add_counters.Goals as goal

pub overflow_add-sum : goal.overflow_add-sum
overflow_add-sum c =
    let a = c.args.added.now in
    let b = c.args.counters.now in
    let same : length a ≡ length b = omega arith in
    omega (arith, sums_read c.loop-bin.bin a b c.loop-bin.added c.loop-bin.invariant same, c.requires.1 c.loop-bin.bin, c.wide.ensures, c.type_inv.counters c.loop-bin.bin)

pub loop-bin-preserved : goal.loop-bin-preserved
loop-bin-preserved c =
    let a = c.args.added.now in
    let b = c.args.counters.now in
    let same : length a ≡ length b = omega arith in
    ap (λ (n : ℕ). set c.loop-bin.added c.loop-bin.bin (get_or c.loop-bin.added c.loop-bin.bin 0 + n)) c.wide.ensures
    ∙ sums_turn c.loop-bin.bin a b c.loop-bin.added c.loop-bin.invariant same (omega arith)

pub returns : goal.returns
returns c = c.loop-bin.invariant ∙ sums_all c.loop-bin.bin c.args.added.now c.args.counters.now (omega arith)
