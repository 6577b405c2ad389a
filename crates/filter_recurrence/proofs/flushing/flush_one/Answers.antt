-- `flushing::flush_one` meets its contract: a magnitude is below 2^-1022 where the value is between that and its negative. Assumes nothing.
use Rattle.std.proofs.Common.{negsuc, arith}
use lib.Ieee.{neg, of_bits}
use Rattle.base_floats.specs.Entry.{plus_zero}
use Rattle.base_floats.proofs.Magnitude.{between}
use Rattle.filter_recurrence.proofs.flushing.flush_one.Goals as goal
use Rattle.filter_recurrence.proofs.flushing.flush_one.Goals.{else-v-via-then-v+else-v-2, else-v-via-else-v}

pub returns-then-v-2 : goal.returns-then-v-2
unfolding neg of_bits
returns-then-v-2 c = rw (between 1 (negsuc 1021) (omega arith) c.args.v plus_zero) (simp (c.if-v.true, c.if-v-2.true))

pub returns-else-v : goal.returns-else-v
unfolding neg of_bits
returns-else-v c =
    rw (between 1 (negsuc 1021) (omega arith) c.args.v plus_zero)
    (elim c.else-v.branch [ else-v-via-then-v+else-v-2 w ↦ simp (w.if-v.true, w.if-v-2.false) | else-v-via-else-v w ↦ simp w.if-v.false ])
