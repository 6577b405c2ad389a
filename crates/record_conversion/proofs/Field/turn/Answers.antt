-- `Field::turn` meets its contract: a number read high byte first and written low byte first is its field turned round. The invariant: what is left to turn
-- gives what all of it gives. Assumes nothing.
use Rattle.std.proofs.Common.{◌≡◌, ◌∙◌, ◌+◌, ◌-◌, ◌*◌, ℕ, List, reverse, sym, ap, take, drop, length-drop, arith}
use Rattle.std.proofs.lemmas.List.Edits.{sets}
use lib.Seq.{get_or-drop}
use Rattle.base_fields.specs.declared.Order.TheVariants.{LowFirst, HighFirst}
use Rattle.base_fields.specs.Field.{bytes_of}
use Rattle.base_fields.proofs.Orders.{number_within, turned_field}
use Rattle.record_layout.proofs.Turns.{field_put, sets_whole}
use Rattle.record_conversion.specs.Inner.{width_of, each_turned}
use Rattle.record_conversion.proofs.Fields.{turned_length, turned_turn, turned_end, within, next_place_lem}
use Rattle.record_conversion.proofs.Field.turn.Goals as goal

pub loop-i-init : goal.loop-i-init
loop-i-init c =
    let a = c.args in
    let width = c.width-width.result in
    let here : width * 0 ≡ 0 = omega arith in
    let all : a.count - 0 ≡ a.count = omega arith in
    record {
      width = c.width-width.ensures;
      left = rw (here, all, c.width-width.ensures)
          (sets_whole a.out.now (each_turned (width_of a.self) a.count a.bytes.now) (c.requires.1 ∙ sym (turned_length (width_of a.self) a.count a.bytes.now c.requires.0)));
    }

pub loop-i-preserved : goal.loop-i-preserved
loop-i-preserved c =
    let a = c.args in
    let bytes = a.bytes.now in
    let width = c.width-width.result in
    let w = c.width-width.ensures in
    let l = c.loop-i in
    let i = l.i in
    let at = width * i in
    let next = width * (i + 1) in
    let n = at + width - at in
    let field = drop at bytes in
    let room = within a.self width i a.count w (omega arith) in
    let read = c.number_in-number.ensures ∙ number_within HighFirst (width_of a.self) field n (omega (arith, w)) in
    let put =
    field_put LowFirst l.out c.put_number.new.field at (width_of a.self) n c.number_in-number.result (omega (arith, w)) (omega (arith, w, room, c.requires.1)) c.put_number.ensures
    ∙ ap (λ (k : ℕ). sets l.out at (bytes_of LowFirst (width_of a.self) k)) read
    ∙ ap (sets l.out at)
    (turned_field HighFirst (width_of a.self) field (λ k. rw (get_or-drop at bytes k 0) (omega (arith, c.type_inv.bytes (at + k)))) (omega (arith, w, room, c.requires.0, length-drop at bytes)))
    ∙ ap (λ (k : ℕ). sets l.out at (reverse (take k field))) (sym w) in
    record {
      width = w;
      left =
          ap (λ (o : List ℕ). sets o next (each_turned width (a.count - (i + 1)) (drop next bytes))) put
          ∙ turned_turn width bytes l.out at next (a.count - i) (a.count - (i + 1)) (omega arith) (omega (arith, next_place_lem a.self width i w)) (omega (arith, w, room, c.requires.0))
          ∙ l.invariant.left;
    }

pub returns : goal.returns
returns c =
    let a = c.args in
    let l = c.loop-i in
    let at = c.width-width.result * l.i in
    sym (turned_end c.width-width.result (drop at a.bytes.now) l.out at (a.count - l.i) (omega arith)) ∙ l.invariant.left
