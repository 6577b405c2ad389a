-- `record_conversion::convert_histogram` meets its contract: the frame, then ROOM, then a head and every counter turned round. Assumes nothing.
use mathlib.Core.Path.{◌≡◌, refl, sym, ap, ◌∙◌}
use mathlib.Core.List.{List, [], ◌∷◌}
use Prim.Native.Nat.{ℕ, ◌-◌}
use native.Mathlib.Omega.{arith}
use lib.Seq.{sets}
use Rattle.base_refusals.specs.Outcome.{says}
use Rattle.base_refusals.specs.Rows.{number_of}
use Rattle.bins.specs.Bin.{bins}
use Rattle.record_layout.specs.declared.Model.{Model}
use Rattle.record_layout.specs.declared.Kind.TheVariants.{Histogram}
use Rattle.record_layout.specs.Layout.{head_width, count_width, histogram_length, body_in, frame_rows, with_head, room_row, written_to}
use Rattle.record_histogram.proofs.Cases.{framed_length}
use Rattle.record_conversion.specs.Conversion.{converted_record, converted}
use Rattle.record_conversion.specs.Inner.{each_turned}
use Rattle.record_conversion.proofs.Cases.{no_room, convert_went, counters_length, counters_put}
use Rattle.record_conversion.proofs.convert_histogram.Goals as goal
use Rattle.std.proofs.lemmas.Result.{err_from_is_err_and}
use Rattle.record_layout.proofs.Frames.{went_on, stopped_there}
use Rattle.record_histogram.specs.Record.{record_length}
use lib.ListN.{length, length-take, length-drop}
use Rattle.record_layout.proofs.Turns.{part_put, rest_is}
use Rattle.record_conversion.proofs.Fields.{turned_length}
use Rattle.record_conversion.proofs.convert_histogram.Goals.{In_ok-frame}

past_frame : (c : In_ok-frame) → number_of (frame_rows (Histogram c.args.model) c.args.bytes.now) ≡ 0
past_frame c = went_on (Histogram c.args.model) c.args.bytes.now c.in_ok-frame.field-0 c.in_ok-frame.ensures

whole : (c : In_ok-frame) → length c.args.bytes.now ≡ record_length
whole c = framed_length c.args.model c.args.bytes.now (past_frame c)

pub returns-in_err-frame : goal.returns-in_err-frame
unfolding converted
returns-in_err-frame c =
    let a = c.args in
    let bytes = a.bytes.now in
    let out = a.out.now in
    let record' = converted_record (Histogram a.model) bytes in
    let p = err_from_is_err_and c.from_residual.result c.from_residual.ensures.1 in
    let r = stopped_there (written_to out record') (Histogram a.model) bytes (room_row out record' ∷ []) out _ c.in_err-frame.ensures in
    rw (p.1, p.2) (r.says, r.keeps)

pub returns-then-out-length : goal.returns-then-out-length
returns-then-out-length c =
    let a = c.args in
    let bytes = a.bytes.now in
    let past = past_frame (goal.at.returns-then-out-length c).In_ok-frame in
    rw (no_room (Histogram a.model) bytes a.out.now past (omega (arith, c.if-out-length.true, counters_length a.model bytes past))) (refl, refl)

pub slice_bounds-turn-count : goal.slice_bounds-turn-count
slice_bounds-turn-count c = omega (arith, whole (goal.at.slice_bounds-turn-count c).In_ok-frame)

pub slice_bounds-turn-start : goal.slice_bounds-turn-start
slice_bounds-turn-start c = omega (arith, whole (goal.at.slice_bounds-turn-start c).In_ok-frame)

pub slice_bounds-turn-count-2 : goal.slice_bounds-turn-count-2
slice_bounds-turn-count-2 c = omega (arith, whole (goal.at.slice_bounds-turn-count-2 c).In_ok-frame)

pub slice_bounds-turn-start-2 : goal.slice_bounds-turn-start-2
slice_bounds-turn-start-2 c = omega (arith, whole (goal.at.slice_bounds-turn-start-2 c).In_ok-frame)

pub turn-requires : goal.turn-requires
turn-requires c =
    let w = whole (goal.at.turn-requires c).In_ok-frame in
    (simp (length-take, length-drop) (omega arith), simp (length-take, length-drop) (omega (arith, c.if-out-length.false)))

pub returns : goal.returns
returns c =
    let a = c.args in
    let bytes = a.bytes.now in
    let out = a.out.now in
    let here = (goal.at.returns c).In_ok-frame in
    let l = counters_length a.model bytes (past_frame here) in
    let n = whole here in
    let body = c.turn.ensures ∙ ap (each_turned count_width bins) (rest_is bytes head_width) in
    let long = ap length body ∙ turned_length count_width bins (body_in bytes) (omega (arith, n, length-drop head_width bytes)) in
    rw (convert_went (Histogram a.model) bytes out (past_frame here) (omega (arith, l, c.if-out-length.false))) (
      ap says (sym l),
      part_put c.put_head.new.out c.turn.new.out 6 (length bytes - 6) (omega (arith, long, n)) (omega (arith, n, c.if-out-length.false))
          ∙ ap (sets c.put_head.new.out head_width) body
          ∙ ap (λ (start : List ℕ). sets start head_width (each_turned count_width bins (body_in bytes))) c.put_head.ensures
          ∙ ap (λ (model : Model). sets (with_head (Histogram model) histogram_length out) head_width (each_turned count_width bins (body_in bytes))) c.other_model.ensures
          ∙ counters_put a.model bytes (past_frame here) (λ i. omega (arith, c.type_inv.bytes i)) out c.if-out-length.false,
    )
