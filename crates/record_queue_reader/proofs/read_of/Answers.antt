-- `record_queue_reader::read_of` meets its contract: a record that passes every check has the queue that was answered, and its energies fit. Assumes nothing.
use Rattle.std.proofs.Common.{◌≡◌, ◌∙◌, ◌+◌, ◌*◌, ◌-◌, ◌≤◌, ℕ, List, ◌++◌, refl, sym, ap, length, take, drop, length-take, length-drop, arith}
use Rattle.std.proofs.lemmas.Result.{err_from_is_err_and}
use Rattle.std.specs.Float.Ieee.{Float}
use borrow.Author.Tests.{ne_eqb}
use Rattle.base_refusals.specs.Outcome.{went, says}
use Rattle.base_refusals.specs.Rows.{number_of}
use Rattle.base_refusals.proofs.Rows.{number_parts}
use Rattle.base_refusals.proofs.Behind.{passed, stopped_said}
use Rattle.base_fields.specs.declared.Order.{Order}
use Rattle.history_queue.specs.declared.Queue.{Queue}
use Rattle.record_layout.specs.declared.Kind.TheVariants.{Queue as QueueKind}
use Rattle.record_layout.specs.Layout.{energy_width, least_length, order_of, numbers_in, frame_rows}
use Rattle.record_layout.proofs.Frames.{framed}
use Rattle.record_layout.proofs.Turns.{rest_is}
use Rattle.record_queue_reader.specs.QueueRecord.{maximum_in, held_in, patterns_in, all_fit, energies_of, stored, queue_in, content_rows, check_rows, check_queue, store_rows, read_energies}
use Rattle.record_queue_reader.proofs.Cases.{Sound, sound, read_behind, read_went, numbers_within}
use Rattle.record_queue_reader.proofs.read_of.Goals as goal
use Rattle.record_queue_reader.proofs.read_of.Goals.{In_ok-queue}

-- what the check answered
checked : (c : In_ok-queue) → let a = c.args in
    (number_of (check_rows a.model a.bytes.now) ≡ 0) × (c.in_ok-queue.queue ≡ queue_in a.model a.bytes.now)
unfolding check_queue
checked c =
    let a = c.args in
    passed (queue_in a.model a.bytes.now) (check_rows a.model a.bytes.now) c.in_ok-queue.queue c.in_ok-queue.ensures

maximum_is : (c : In_ok-queue) → c.in_ok-queue.queue.maximum ≡ maximum_in c.args.model c.args.bytes.now
maximum_is c = ap (λ (queue : Queue). queue.maximum) (checked c).1

held_is : (c : In_ok-queue) → c.in_ok-queue.queue.held ≡ held_in c.args.model c.args.bytes.now
held_is c = ap (λ (queue : Queue). queue.held) (checked c).1

-- so its body is sound
parts : (c : In_ok-queue) → let a = c.args in
    (number_of (frame_rows (QueueKind a.model) a.bytes.now) ≡ 0) × (number_of (content_rows a.model a.bytes.now) ≡ 0)
parts c = let a = c.args in number_parts (frame_rows (QueueKind a.model) a.bytes.now) (content_rows a.model a.bytes.now) (checked c).0

content : (c : In_ok-queue) → Sound c.args.model c.args.bytes.now
content c = sound c.args.model c.args.bytes.now (parts c).1

-- the bytes of the energies that are held, which the store has places for
long : (c : In_ok-queue) → length c.args.bytes.now ≡ least_length + energy_width * held_in c.args.model c.args.bytes.now
long c =
    let f = framed (QueueKind c.args.model) c.args.bytes.now (parts c).0 in
    omega (arith, f.long, f.length_is, (content c).length_is)

within : (c : In_ok-queue) → length c.args.store.now ≡ c.in_ok-queue.queue.maximum → c.in_ok-queue.queue.held ≤ length c.args.store.now
within c whole =
    let fit = numbers_within (maximum_in c.args.model c.args.bytes.now) (held_in c.args.model c.args.bytes.now) (content c).numbers in
    omega (arith, maximum_is c, held_is c, fit.2)

-- they are those of the record, in the order of the kind
there : (c : In_ok-queue) (order : Order) → order ≡ order_of (QueueKind c.args.model) → length c.args.store.now ≡ c.in_ok-queue.queue.maximum
    → let bytes = c.args.bytes.now in
    numbers_in order energy_width (length (take c.in_ok-queue.queue.held c.args.store.now)) (take (length bytes - 14) (drop 14 bytes)) ≡ patterns_in c.args.model bytes
there c order is whole =
    let bytes = c.args.bytes.now in
    let store = c.args.store.now in
    let held = c.in_ok-queue.queue.held in
    let w = within c whole in
    let count : length (take held store) ≡ held_in c.args.model bytes = simp length-take (omega (arith, held_is c)) in
    ap (numbers_in order energy_width (length (take held store))) (rest_is bytes 14)
    ∙ ap (λ (n : ℕ). numbers_in order energy_width n (drop 14 bytes)) count
    ∙ ap (λ (o : Order). numbers_in o energy_width (held_in c.args.model bytes) (drop 14 bytes)) is

pub returns-in_err-queue : goal.returns-in_err-queue
unfolding check_queue read_energies
returns-in_err-queue c =
    let a = c.args in
    let bytes = a.bytes.now in
    let store = a.store.now in
    let queue = queue_in a.model bytes in
    let p = err_from_is_err_and c.from_residual.result c.from_residual.ensures.1 in
    let r = stopped_said queue (went (stored a.model bytes store) queue) (check_rows a.model bytes) (store_rows a.model bytes store) store _ c.in_err-queue.ensures in
    rw (p.1, p.2) (r.says, r.keeps)

pub returns-then-store-queue : goal.returns-then-store-queue
returns-then-store-queue c =
    let a = c.args in
    let bytes = a.bytes.now in
    let store = a.store.now in
    let here = (goal.at.returns-then-store-queue c).In_ok-queue in
    rw (read_behind a.model bytes store (checked here).0)
    (rw (ne_eqb (length store) (maximum_in a.model bytes) (λ s. c.if-store-queue.true (s ∙ sym (maximum_is here)))) (refl, refl))

pub slice_bounds-read_energies-count : goal.slice_bounds-read_energies-count
slice_bounds-read_energies-count c = omega (arith, long (goal.at.slice_bounds-read_energies-count c).In_ok-queue)

pub slice_bounds-read_energies-start : goal.slice_bounds-read_energies-start
slice_bounds-read_energies-start c = omega (arith, long (goal.at.slice_bounds-read_energies-start c).In_ok-queue)

pub slice_bounds-read_energies-end-2 : goal.slice_bounds-read_energies-end-2
slice_bounds-read_energies-end-2 c = within (goal.at.slice_bounds-read_energies-end-2 c).In_ok-queue c.if-store-queue.false

pub slice_bounds-read_energies-end-3 : goal.slice_bounds-read_energies-end-3
slice_bounds-read_energies-end-3 c =
    let w = within (goal.at.slice_bounds-read_energies-end-3 c).In_ok-queue c.if-store-queue.false in
    simp length-take (omega arith)

pub read_energies-requires : goal.read_energies-requires
read_energies-requires c =
    let here = (goal.at.read_energies-requires c).In_ok-queue in
    let w = within here c.if-store-queue.false in (
      simp (length-take, length-drop) (omega (arith, long here, held_is here)),
      ap all_fit (there here c.order_of-order.result c.order_of-order.ensures c.if-store-queue.false) ∙ (content here).fit,
    )

pub returns : goal.returns
unfolding stored
returns c =
    let a = c.args in
    let bytes = a.bytes.now in
    let store = a.store.now in
    let here = (goal.at.returns c).In_ok-queue in
    let k = checked here in
    let whole : length store ≡ maximum_in a.model bytes = c.if-store-queue.false ∙ maximum_is here in
    rw (read_went a.model bytes store k.0 whole) (
      ap says k.1,
      ap (λ (new : List Float). new ++ drop c.in_ok-queue.queue.held store) (c.read_energies.ensures ∙ ap energies_of (there here c.order_of-order.result c.order_of-order.ensures c.if-store-queue.false))
          ∙ ap (λ (n : ℕ). energies_of (patterns_in a.model bytes) ++ drop n store) (held_is here),
    )
