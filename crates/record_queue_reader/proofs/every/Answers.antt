-- `record_queue_reader::every` meets its contract. The invariant: what was found, with what the patterns left give, is what all give. Assumes nothing.
use Rattle.std.proofs.Common.{◌∙◌, ◌+◌, ◌-◌, ◌*◌, ◌/◌, sym, length, drop, arith}
use Rattle.record_layout.proofs.Turns.{chunk_number}
use Rattle.record_queue_reader.proofs.Patterns.{test_turn, test_end}
use Rattle.record_queue_reader.proofs.every.Goals as goal

pub loop-pattern-preserved : goal.loop-pattern-preserved
loop-pattern-preserved g c = λ told follows.
    let order = c.args.order in
    let fields = c.args.fields.now in
    let count = length fields / 8 in
    let l = c.loop-pattern in
    let i = l.pattern-index in
    let pattern = c.double_word.result in
    let read = chunk_number order 8 count fields c.as_chunks.result.0.now i pattern c.as_chunks.ensures.front (omega arith) c.double_word.ensures in
    test_turn order 8 fields (8 * i) (8 * (i + 1)) (count - i) (count - (i + 1)) pattern (omega arith) (omega arith) read told l.all c.test-all.result
    (follows pattern c.test-all.result c.test-all.ensures)
    ∙ l.invariant told follows

pub returns : goal.returns
returns g c = λ told follows.
    let fields = c.args.fields.now in
    let l = c.loop-pattern in
    sym (test_end c.args.order 8 (length fields / 8 - l.pattern-index) (drop (8 * l.pattern-index) fields) told l.all (omega arith)) ∙ l.invariant told follows
