-- `record_queue_reader::check_queue` meets its contract: the frame first, then the body. Assumes nothing.
use Rattle.std.proofs.Common.{◌≡◌, ◌∙◌, sym, ap}
use Rattle.std.proofs.lemmas.Result.{err_from_is_err_and}
use Rattle.base_refusals.specs.Outcome.{answers, said_by}
use Rattle.base_refusals.specs.Rows.{number_of}
use Rattle.record_layout.specs.declared.Kind.TheVariants.{Queue as QueueKind}
use Rattle.record_layout.specs.Layout.{frame_rows}
use Rattle.record_layout.proofs.Frames.{went_on, stopped_there}
use Rattle.record_queue_reader.specs.QueueRecord.{queue_in, content_rows, check_queue}
use Rattle.record_queue_reader.proofs.Cases.{check_behind, framed_long, framed_length}
use Rattle.record_queue_reader.proofs.check_queue.Goals as goal
use Rattle.record_queue_reader.proofs.check_queue.Goals.{In_ok-frame}

past_frame : (c : In_ok-frame) → number_of (frame_rows (QueueKind c.args.model) c.args.bytes.now) ≡ 0
past_frame c = went_on (QueueKind c.args.model) c.args.bytes.now c.in_ok-frame.field-0 c.in_ok-frame.ensures

pub returns-in_err-frame : goal.returns-in_err-frame
unfolding check_queue
returns-in_err-frame c =
    let a = c.args in
    let bytes = a.bytes.now in
    let p = err_from_is_err_and c.from_residual.result c.from_residual.ensures.1 in
    rw (p.1, p.2) (stopped_there (answers (queue_in a.model bytes)) (QueueKind a.model) bytes (content_rows a.model bytes) tt _ c.in_err-frame.ensures).says

pub check_body-requires : goal.check_body-requires
check_body-requires c =
    let a = c.args in
    let past = past_frame (goal.at.check_body-requires c).In_ok-frame in
    (framed_long a.model a.bytes.now past, framed_length a.model a.bytes.now past)

pub returns : goal.returns
returns c =
    let a = c.args in
    c.check_body.ensures ∙ sym (ap said_by (check_behind a.model a.bytes.now (past_frame (goal.at.returns c).In_ok-frame)))
