-- `exports_records::xel_queue_read` meets its contract: the answer is told as the C interface tells it, the queue's numbers one by one. Assumes nothing.
use mathlib.Core.Path.{ap, ◌∙◌}
use Rattle.history_queue.specs.declared.Queue.{Queue}
use Rattle.record_queue_reader.specs.QueueRecord.{read_queue}
use Rattle.base_refusals.specs.Answer.{said}
use Rattle.exports_records.proofs.Told.{code_told, value_told}
use Rattle.exports_records.proofs.xel_queue_read.Goals as goal

pub returns : goal.returns
returns c =
    let a = c.args in
    let outcome = read_queue a.bytes.now a.store.now in
    let answer = said c.read_queue-answer.result in
    let given = c.read_queue-answer.ensures in
    let told = c.tell_queue.ensures in
    let queue = value_told answer outcome (record { maximum = a.maximum.now; head = a.head.now; held = a.held.now }) given.0 in (
      code_told answer outcome c.tell_queue.result told.0 given.0,
      told.1 ∙ ap (λ (q : Queue). q.maximum) queue,
      told.2 ∙ ap (λ (q : Queue). q.head) queue,
      told.3 ∙ ap (λ (q : Queue). q.held) queue,
      given.1,
    )
