-- `base_fields::put_number` meets its contract. The invariant: the bytes written and those of what is left are those of the whole number. Assumes nothing.
use Rattle.std.proofs.Common.{◌-◌, ◌∙◌, sym, ap, length, length-set, reverse, arith}
use Rattle.base_fields.proofs.Written.{low_turn, low_end}
use Rattle.base_fields.proofs.put_number.Goals as goal

pub loop-byte-preserved : goal.loop-byte-preserved
loop-byte-preserved c =
    let l = c.loop-byte in
    simp length-set (low_turn l.field l.byte-index (length l.field - l.byte-index) l.left (omega arith) (omega arith) ∙ l.invariant)

pub returns-in-LowFirst : goal.returns-in-LowFirst
returns-in-LowFirst c =
    let l = c.loop-byte in
    rw c.in-LowFirst.is (sym (low_end l.field l.byte-index l.left (omega arith)) ∙ l.invariant)

pub returns-in-HighFirst : goal.returns-in-HighFirst
returns-in-HighFirst c =
    let l = c.loop-byte in
    rw c.in-HighFirst.is (c.reverse.ensures.after ∙ ap reverse (sym (low_end l.field l.byte-index l.left (omega arith)) ∙ l.invariant))
