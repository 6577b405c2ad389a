-- `merging::add_all` meets its contract. The invariant: the counters before `bin` are sums, and the others are as they were.
-- Assumes nothing.
use Rattle.std.proofs.Common.{arith}
use Rattle.history_histogram.proofs.Sums.{sums_read}
use Rattle.history_histogram.proofs.Room.{room_at}
use Rattle.history_histogram.proofs.merging.add_all.Goals as goal

pub overflow_add-sum : goal.overflow_add-sum
overflow_add-sum c =
    let a = c.args.into.now in
    let b = c.args.from.now in
    omega (arith, sums_read c.loop-bin.bin a b c.loop-bin.into c.loop-bin.invariant c.requires.0, room_at a b c.loop-bin.bin (omega arith) (omega arith) c.requires.1)
