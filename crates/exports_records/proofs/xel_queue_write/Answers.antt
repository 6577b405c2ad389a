-- `exports_records::xel_queue_write` meets its contract: the answer is told as the C interface tells it. Assumes nothing.
use mathlib.Core.Path.{◌∙◌}
use Rattle.history_queue.specs.Queue.{over}
use Rattle.record_queue_writer.specs.Writing.{write_queue}
use Rattle.base_refusals.specs.Answer.{said}
use Rattle.exports_records.proofs.Told.{code_told, value_told}
use Rattle.exports_records.proofs.xel_queue_write.Goals as goal

pub returns : goal.returns
returns c =
    let a = c.args in
    let outcome = write_queue (over (record { maximum = a.maximum; head = a.head; held = a.held }) a.store.now) a.out.now in
    let answer = said c.write_queue-answer.result in
    let given = c.write_queue-answer.ensures in
    let told = c.tell_written.ensures in
    (code_told answer outcome c.tell_written.result told.0 given.0, told.1 ∙ value_told answer outcome a.written.now given.0, given.1)
