-- `reader::read_of` meets its contract: bytes that pass the frame are as many as a record has, so every counter has its four. Assumes nothing.
use Rattle.std.proofs.Common.{◌≡◌, ◌-◌, ◌∙◌, refl, ap, length, length-take, length-drop, arith}
use Rattle.std.proofs.lemmas.Result.{err_from_is_err_and}
use borrow.Author.Tests.{ne_eqb}
use lib.Seq.{take_all}
use Rattle.base_refusals.specs.Rows.{number_of}
use Rattle.base_fields.specs.declared.Order.{Order}
use Rattle.bins.specs.Bin.{bins}
use Rattle.record_layout.specs.declared.Kind.TheVariants.{Histogram}
use Rattle.record_layout.specs.Layout.{frame_rows, body_in, count_width, numbers_in}
use Rattle.record_layout.proofs.Frames.{went_on}
use Rattle.record_histogram.specs.Record.{record_length, counters_in}
use Rattle.record_histogram.proofs.Cases.{framed_length, read_behind, read_went, stopped_by_frame}
use Rattle.record_histogram.proofs.reader.read_of.Goals as goal
use Rattle.record_histogram.proofs.reader.read_of.Goals.{In_ok-frame}

past_frame : (c : In_ok-frame) → number_of (frame_rows (Histogram c.args.model) c.args.bytes.now) ≡ 0
past_frame c = went_on (Histogram c.args.model) c.args.bytes.now c.in_ok-frame.field-0 c.in_ok-frame.ensures

whole : (c : In_ok-frame) → length c.args.bytes.now ≡ record_length
whole c = framed_length c.args.model c.args.bytes.now (past_frame c)

pub returns-in_err-frame : goal.returns-in_err-frame
returns-in_err-frame c =
    let a = c.args in
    let p = err_from_is_err_and c.from_residual.result c.from_residual.ensures.1 in
    let r = stopped_by_frame a.model a.bytes.now a.counters.now _ c.in_err-frame.ensures in
    rw (p.1, p.2) (r.says, r.keeps)

pub returns-then-counters-ne-BINS : goal.returns-then-counters-ne-BINS
returns-then-counters-ne-BINS c =
    let a = c.args in
    rw (read_behind a.model a.bytes.now a.counters.now (past_frame (goal.at.returns-then-counters-ne-BINS c).In_ok-frame))
    (rw (ne_eqb (length a.counters.now) bins c.if-counters-ne-BINS.true) (refl, refl))

pub slice_bounds-read_counters-count : goal.slice_bounds-read_counters-count
slice_bounds-read_counters-count c = omega (arith, whole (goal.at.slice_bounds-read_counters-count c).In_ok-frame)

pub slice_bounds-read_counters-start : goal.slice_bounds-read_counters-start
slice_bounds-read_counters-start c = omega (arith, whole (goal.at.slice_bounds-read_counters-start c).In_ok-frame)

pub read_counters-requires : goal.read_counters-requires
read_counters-requires c =
    let w = whole (goal.at.read_counters-requires c).In_ok-frame in
    (simp (length-take, length-drop) (omega arith), c.if-counters-ne-BINS.false)

pub returns : goal.returns
unfolding counters_in
returns c =
    let a = c.args in
    let bytes = a.bytes.now in
    rw (read_went a.model bytes a.counters.now (past_frame (goal.at.returns c).In_ok-frame) c.if-counters-ne-BINS.false) (
      refl,
      c.read_counters.ensures
          ∙ ap (numbers_in c.order_of.result count_width bins) (take_all (length bytes - 6) (body_in bytes) (simp length-drop (omega arith)))
          ∙ ap (λ (order : Order). numbers_in order count_width bins (body_in bytes)) c.order_of.ensures,
    )
