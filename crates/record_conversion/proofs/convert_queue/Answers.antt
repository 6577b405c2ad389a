-- `record_conversion::convert_queue` meets its contract: the reader's checks, then ROOM, then a head, the two numbers and every pattern turned round.
-- Assumes nothing.
use mathlib.Core.Path.{◌≡◌, refl, sym, ap, ◌∙◌}
use mathlib.Core.List.{List, [], ◌∷◌}
use Prim.Native.Nat.{ℕ, ◌+◌, ◌-◌, ◌*◌}
use native.Mathlib.Omega.{arith}
use Rattle.std.proofs.lemmas.Result.{err_from_is_err_and}
use lib.ListN.{length, drop, length-take, length-drop}
use lib.Seq.{sets, length-sets}
use borrow.Rule.Slice.PartMut.{put_mid}
use Rattle.record_layout.proofs.Turns.{part_put, put_length, rest_is}
use Rattle.record_conversion.proofs.Fields.{turned_length}
use Rattle.base_refusals.specs.Outcome.{says}
use Rattle.base_refusals.specs.Rows.{number_of}
use Rattle.base_refusals.proofs.Behind.{passed, stopped_said}
use Rattle.history_queue.specs.declared.Queue.{Queue as TheQueue}
use Rattle.record_layout.specs.declared.Model.{Model}
use Rattle.record_layout.specs.declared.Kind.TheVariants.{Queue}
use Rattle.record_layout.specs.Layout.{head_width, number_width, energy_width, least_length, with_head, room_row, written_to}
use Rattle.record_queue_reader.specs.QueueRecord.{held_in, queue_in, check_rows, check_queue}
use Rattle.record_conversion.specs.Conversion.{converted_record, converted}
use Rattle.record_conversion.specs.Inner.{each_turned}
use Rattle.record_conversion.proofs.Cases.{no_room, convert_went, checked_length, energies_length, energies_put}
use Rattle.record_conversion.proofs.convert_queue.Goals as goal
use Rattle.record_conversion.proofs.convert_queue.Goals.{In_ok-queue}

-- what the check answered
checked : (c : In_ok-queue) → let a = c.args in
    (number_of (check_rows a.model a.bytes.now) ≡ 0) × (c.in_ok-queue.queue ≡ queue_in a.model a.bytes.now)
unfolding check_queue
checked c =
    let a = c.args in
    passed (queue_in a.model a.bytes.now) (check_rows a.model a.bytes.now) c.in_ok-queue.queue c.in_ok-queue.ensures

held_is : (c : In_ok-queue) → c.in_ok-queue.queue.held ≡ held_in c.args.model c.args.bytes.now
held_is c = ap (λ (queue : TheQueue). queue.held) (checked c).1

long : (c : In_ok-queue) → length c.args.bytes.now ≡ least_length + energy_width * c.in_ok-queue.queue.held
long c = omega (arith, checked_length c.args.model c.args.bytes.now (checked c).0, held_is c)

pub returns-in_err-queue : goal.returns-in_err-queue
unfolding check_queue converted
returns-in_err-queue c =
    let a = c.args in
    let bytes = a.bytes.now in
    let out = a.out.now in
    let record' = converted_record (Queue a.model) bytes in
    let p = err_from_is_err_and c.from_residual.result c.from_residual.ensures.1 in
    let r = stopped_said (queue_in a.model bytes) (written_to out record') (check_rows a.model bytes) (room_row out record' ∷ []) out _ c.in_err-queue.ensures in
    rw (p.1, p.2) (r.says, r.keeps)

pub returns-then-out-length : goal.returns-then-out-length
returns-then-out-length c =
    let a = c.args in
    let bytes = a.bytes.now in
    let past = (checked (goal.at.returns-then-out-length c).In_ok-queue).0 in
    rw (no_room (Queue a.model) bytes a.out.now past (omega (arith, c.if-out-length.true, energies_length a.model bytes past))) (refl, refl)

pub overflow_sub-length : goal.overflow_sub-length
overflow_sub-length c = omega (arith, long (goal.at.overflow_sub-length c).In_ok-queue)

pub slice_bounds-turn-count : goal.slice_bounds-turn-count
slice_bounds-turn-count c = omega (arith, long (goal.at.slice_bounds-turn-count c).In_ok-queue)

pub slice_bounds-turn-start : goal.slice_bounds-turn-start
slice_bounds-turn-start c = omega (arith, long (goal.at.slice_bounds-turn-start c).In_ok-queue)

pub slice_bounds-turn-end : goal.slice_bounds-turn-end
slice_bounds-turn-end c = omega (arith, long (goal.at.slice_bounds-turn-end c).In_ok-queue, c.if-out-length.false)

pub slice_bounds-turn-end-2 : goal.slice_bounds-turn-end-2
slice_bounds-turn-end-2 c = omega (arith, long (goal.at.slice_bounds-turn-end-2 c).In_ok-queue, c.if-out-length.false)

pub slice_bounds-turn-count-3 : goal.slice_bounds-turn-count-3
slice_bounds-turn-count-3 c = omega (arith, long (goal.at.slice_bounds-turn-count-3 c).In_ok-queue)

pub slice_bounds-turn-start-3 : goal.slice_bounds-turn-start-3
slice_bounds-turn-start-3 c = omega (arith, long (goal.at.slice_bounds-turn-start-3 c).In_ok-queue)

pub slice_bounds-turn-count-4 : goal.slice_bounds-turn-count-4
slice_bounds-turn-count-4 c = omega (arith, long (goal.at.slice_bounds-turn-count-4 c).In_ok-queue)

pub slice_bounds-turn-start-4 : goal.slice_bounds-turn-start-4
slice_bounds-turn-start-4 c = omega (arith, long (goal.at.slice_bounds-turn-start-4 c).In_ok-queue)

pub turn-requires : goal.turn-requires
turn-requires c =
    let n = long (goal.at.turn-requires c).In_ok-queue in
    (simp (length-take, length-drop) (omega arith), simp (length-take, length-drop) (omega (arith, c.if-out-length.false)))

pub turn-requires-2 : goal.turn-requires-2
turn-requires-2 c =
    let bytes = c.args.bytes.now in
    let n = long (goal.at.turn-requires-2 c).In_ok-queue in
    let first_length =
    ap length (c.turn.ensures ∙ ap (each_turned number_width 2) (rest_is bytes head_width))
    ∙ turned_length number_width 2 (drop head_width bytes) (omega (arith, n, length-drop head_width bytes)) in
    let both_length = put_length c.put_head.new.out c.turn.new.out 6 8 first_length (omega (arith, n, c.if-out-length.false)) in
    (simp (length-take, length-drop) (omega arith), simp (length-take, length-drop) (omega (arith, both_length, c.if-out-length.false)))

pub returns : goal.returns
returns c =
    let a = c.args in
    let bytes = a.bytes.now in
    let out = a.out.now in
    let here = (goal.at.returns c).In_ok-queue in
    let k = (checked here).0 in
    let l = energies_length a.model bytes k in
    let following = length bytes - 4 in
    let numbers = each_turned number_width 2 (drop head_width bytes) in
    let entries = each_turned energy_width (held_in a.model bytes) (drop least_length bytes) in
    let n = long here in
    let start = c.put_head.new.out in
    let both = put_mid 6 8 start c.turn.new.out in
    let first = c.turn.ensures ∙ ap (each_turned number_width 2) (rest_is bytes head_width) in
    let second =
    c.turn-2.ensures ∙ ap (each_turned energy_width c.in_ok-queue.queue.held) (rest_is bytes least_length)
    ∙ ap (λ (k : ℕ). each_turned energy_width k (drop least_length bytes)) (held_is here) in
    let first_length = ap length first ∙ turned_length number_width 2 (drop head_width bytes) (omega (arith, n, length-drop head_width bytes)) in
    let second_length =
    ap length second ∙ turned_length energy_width (held_in a.model bytes) (drop least_length bytes) (omega (arith, n, held_is here, length-drop least_length bytes)) in
    let one : both ≡ sets start head_width numbers =
    part_put start c.turn.new.out 6 8 first_length (omega (arith, n, c.if-out-length.false)) ∙ ap (sets start head_width) first in
    let both_length = ap length one ∙ length-sets start head_width numbers in
    rw (convert_went (Queue a.model) bytes out k (omega (arith, l, c.if-out-length.false))) (
      ap says (sym l),
      part_put both c.turn-2.new.out 14 (length bytes - 14) (omega (arith, second_length, n, held_is here)) (omega (arith, n, both_length, c.if-out-length.false))
          ∙ ap (sets both least_length) second
          ∙ ap (λ (w : List ℕ). sets w least_length entries) one
          ∙ ap (λ (w : List ℕ). sets (sets w head_width numbers) least_length entries) c.put_head.ensures
          ∙ ap (λ (model : Model). sets (sets (with_head (Queue model) following out) head_width numbers) least_length entries) c.other_model.ensures
          ∙ energies_put a.model bytes k (λ i. omega (arith, c.type_inv.bytes i)) out following c.if-out-length.false refl,
    )
