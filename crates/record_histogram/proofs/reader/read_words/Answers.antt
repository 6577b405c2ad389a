-- `reader::read_words` meets its contract. The invariant: the words read and those in the bytes that are left are all of them. Assumes nothing.
use Rattle.std.proofs.Common.{◌+◌, ◌-◌, ◌*◌, ◌/◌, ◌∙◌, sym, length, drop, length-set, arith}
use Rattle.record_layout.proofs.Turns.{all_left, read_turn, read_end, chunk_number}
use Rattle.record_histogram.proofs.reader.read_words.Goals as goal

pub loop-i-init : goal.loop-i-init
loop-i-init c = let a = c.args in all_left a.order 4 a.fields.now 0 (length a.words.now)

pub loop-i-preserved : goal.loop-i-preserved
loop-i-preserved c =
    let a = c.args in
    let fields = a.fields.now in
    let l = c.loop-i in
    let at = 4 * l.i in
    let read = chunk_number a.order 4 (length fields / 4) fields c.as_chunks.result.0.now l.i c.word.result c.as_chunks.ensures.front (omega arith) c.word.ensures in
    simp length-set
    (read_turn a.order 4 fields l.words at (4 * (l.i + 1)) l.i (length l.words - l.i) c.word.result (omega arith) (omega arith) read (omega arith) ∙ l.invariant)

pub returns : goal.returns
returns c =
    let l = c.loop-i in
    sym (read_end c.args.order 4 (drop (4 * l.i) c.args.fields.now) l.words l.i (omega arith)) ∙ l.invariant
