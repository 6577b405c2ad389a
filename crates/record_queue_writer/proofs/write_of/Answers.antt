-- `record_queue_writer::write_of` meets its contract: a sound queue's record has 14 bytes and 8 for each energy held, and goes where there is room for it.
-- Assumes nothing.
use mathlib.Core.Path.{◌≡◌, refl, sym, ap, ◌∙◌}
use mathlib.Core.Bool.{true, ◌&&◌, and-eq-true_iff}
use mathlib.Core.List.{List}
use Prim.Native.Nat.{ℕ, ◌+◌, ◌-◌, ◌*◌}
use native.Mathlib.Omega.{arith}
use borrow.Author.Tests.{lt-ltb, le-ltb}
use lib.ListN.{length}
use lib.Seq.{sets, length-sets}
use borrow.Rule.Slice.PartMut.{put_mid}
use Rattle.base_refusals.specs.Outcome.{says}
use Rattle.base_fields.specs.declared.Order.{Order}
use Rattle.base_fields.specs.Field.{bytes_of}
use Rattle.history_queue.specs.Queue.{over, suits, held_of}
use Rattle.history_set.specs.Set.{none_below}
use Rattle.history_queue.proofs.Ring.{Suited, suited}
use Rattle.record_layout.specs.declared.Kind.TheVariants.{Queue as QueueKind}
use Rattle.record_layout.specs.Layout.{number_width, energy_width, least_length, all_bytes, with_head}
use Rattle.record_layout.proofs.Runs.{all_length}
use Rattle.record_layout.proofs.Turns.{part_put, field_put}
use Rattle.record_queue_reader.specs.QueueRecord.{patterns_of}
use Rattle.record_queue_reader.specs.Inner.{maximum_at, held_at}
use Rattle.record_queue_writer.specs.Writing.{energies_record, write_energies}
use Rattle.record_queue_writer.proofs.Places.{patterns_length, held_number}
use Rattle.record_queue_writer.proofs.Cases.{whole_length, queue_put}
use Rattle.record_queue_writer.proofs.write_of.Goals as goal
use Rattle.record_queue_writer.proofs.write_of.Goals.{Else-not-sound_queue}

sound_here : (c : Else-not-sound_queue) → let a = c.args in
    suits a.queue (length a.store.now) && none_below (held_of (over a.queue a.store.now)) ≡ true
sound_here c = sym c.sound_queue.ensures ∙ c.if-not-sound_queue.false

suits_here : (c : Else-not-sound_queue) → let a = c.args in suits a.queue (length a.store.now) ≡ true
suits_here c =
    let a = c.args in
    ((and-eq-true_iff (suits a.queue (length a.store.now)) (none_below (held_of (over a.queue a.store.now)))).0 (sound_here c)).0

suited_here : (c : Else-not-sound_queue) → let a = c.args in Suited a.queue (length a.store.now)
suited_here c = let a = c.args in suited a.queue (length a.store.now) (suits_here c)

-- how long the record is
long : (c : Else-not-sound_queue) → let a = c.args in
    length (energies_record a.model a.queue.maximum (held_of (over a.queue a.store.now))) ≡ least_length + energy_width * a.queue.held
long c =
    let a = c.args in
    whole_length a.model a.queue.maximum (held_of (over a.queue a.store.now))
    ∙ ap (λ (n : ℕ). least_length + energy_width * n) (held_number a.queue a.store.now)

pub overflow_mul-length : goal.overflow_mul-length
overflow_mul-length c = let f = suited_here (goal.at.overflow_mul-length c).Else-not-sound_queue in omega arith

pub overflow_add-length : goal.overflow_add-length
overflow_add-length c = let f = suited_here (goal.at.overflow_add-length c).Else-not-sound_queue in omega arith

pub returns-then-out-length : goal.returns-then-out-length
unfolding write_energies
returns-then-out-length c =
    let a = c.args in
    rw (
      sound_here (goal.at.returns-then-out-length c).Else-not-sound_queue,
      lt-ltb (length a.out.now) (length (energies_record a.model a.queue.maximum (held_of (over a.queue a.store.now)))) (omega (arith, long (goal.at.returns-then-out-length c).Else-not-sound_queue, c.if-out-length.true)),
    )
    (refl, refl)

pub returns : goal.returns
unfolding write_energies
returns c =
    let a = c.args in
    let queue = a.queue in
    let store = a.store.now in
    let out = a.out.now in
    let held = held_of (over queue store) in
    let n = held_number queue store in
    let order = c.order_of-order.result in
    let start = c.put_head.new.out in
    let maximum_bytes = bytes_of order number_width queue.maximum in
    let held_bytes = bytes_of order number_width queue.held in
    let entries = all_bytes order energy_width (patterns_of held) in
    let first = put_mid 6 4 start c.put_number.new.field in
    let both = put_mid 10 4 first c.put_number-2.new.field in
    let one : first ≡ sets start maximum_at maximum_bytes =
    field_put order start c.put_number.new.field 6 4 4 queue.maximum refl (omega (arith, c.if-out-length.false)) c.put_number.ensures in
    let first_length = ap length one ∙ length-sets start maximum_at maximum_bytes in
    let two : both ≡ sets first held_at held_bytes =
    field_put order first c.put_number-2.new.field 10 4 4 queue.held refl (omega (arith, c.if-out-length.false, first_length)) c.put_number-2.ensures in
    let both_length = ap length two ∙ length-sets first held_at held_bytes in
    let entries_length = ap length c.write_held.ensures ∙ all_length order energy_width (patterns_of held) in
    let following = least_length + energy_width * queue.held - 4 in
    rw (sound_here (goal.at.returns c).Else-not-sound_queue, le-ltb (length out) (length (energies_record a.model queue.maximum held)) (omega (arith, long (goal.at.returns c).Else-not-sound_queue, c.if-out-length.false))) (
      ap says (sym (long (goal.at.returns c).Else-not-sound_queue)),
      part_put both c.write_held.new.fields 14 (14 + 8 * queue.held - 14) (omega (arith, entries_length, patterns_length held, n))
          (omega (arith, c.if-out-length.false, first_length, both_length))
          ∙ ap (sets both least_length) c.write_held.ensures
          ∙ ap (λ (w : List ℕ). sets w least_length entries) two
          ∙ ap (λ (w : List ℕ). sets (sets w held_at held_bytes) least_length entries) one
          ∙ ap (λ (w : List ℕ). sets (sets (sets w maximum_at maximum_bytes) held_at held_bytes) least_length entries) c.put_head.ensures
          ∙ ap (λ (k : Order). sets (sets (sets (with_head (QueueKind a.model) following out) maximum_at (bytes_of k number_width queue.maximum)) held_at (bytes_of k number_width queue.held)) least_length (all_bytes k energy_width (patterns_of held))) c.order_of-order.ensures
          ∙ queue_put a.model out queue.maximum queue.held following held (sym n) (omega (arith, n)) (omega (arith, n, c.if-out-length.false)),
    )

pub returns-then-not-sound_queue : goal.returns-then-not-sound_queue
unfolding write_energies
returns-then-not-sound_queue c = rw (sym c.sound_queue.ensures ∙ c.if-not-sound_queue.true) (refl, refl)
