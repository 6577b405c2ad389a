-- `record_queue_reader::check_body` meets its contract: each test is a row, in the order of the rows, and the order of the bytes is the kind's. Assumes nothing.
use mathlib.Core.Path.{◌≡◌, sym, ap, ◌∙◌}
use mathlib.Core.List.{List}
use Prim.Native.Nat.{ℕ, ◌+◌, ◌*◌, ◌/◌, ◌≤◌}
use native.Mathlib.Omega.{arith}
use borrow.Author.Tests.{eq-eqb, ne_eqb}
use lib.ListN.{length, take, drop, length-drop}
use Rattle.base_refusals.specs.Outcome.{says}
use Rattle.base_fields.specs.declared.Order.{Order}
use Rattle.base_fields.specs.Field.{number_in}
use Rattle.base_fields.proofs.Orders.{number_within}
use Rattle.record_layout.proofs.Turns.{rest_is}
use Rattle.history_queue.specs.declared.Queue.{Queue}
use Rattle.history_queue.specs.Queue.{longest}
use Rattle.record_layout.specs.declared.Model.{Model}
use Rattle.record_layout.specs.declared.Kind.TheVariants.{Queue as QueueKind}
use Rattle.record_layout.specs.Layout.{number_width, energy_width, queue_least, least_length, order_of, numbers_in, length_in}
use Rattle.record_queue_reader.specs.QueueRecord.{maximum_in, held_in, patterns_in, numbers_fit, all_fit, queue_in}
use Rattle.record_queue_reader.specs.Inner.{maximum_at, held_at, body_checked}
use Rattle.record_queue_reader.proofs.Cases.{numbers_within}
use Rattle.record_queue_reader.proofs.check_body.Goals as goal
use Rattle.record_queue_reader.proofs.check_body.Goals.{After-energies_fit, After-numbers_fit, Else-bytes-held, Else-not-numbers_fit}

-- ---- the two numbers
module _ (model : Model) (bytes : List ℕ) (number : ℕ) (order : Order) (is : order ≡ order_of (QueueKind model)) where
  maximum_is : number ≡ number_in order number_width (take number_width (drop maximum_at bytes)) → number ≡ maximum_in model bytes
  maximum_is read = read ∙ number_within order number_width (drop maximum_at bytes) number_width (omega arith) ∙ ap (λ (o : Order). number_in o number_width (drop maximum_at bytes)) is

  held_is : number ≡ number_in order number_width (take number_width (drop held_at bytes)) → number ≡ held_in model bytes
  held_is read = read ∙ number_within order number_width (drop held_at bytes) number_width (omega arith) ∙ ap (λ (o : Order). number_in o number_width (drop held_at bytes)) is

-- ---- past each test
tested : (c : After-numbers_fit) → let a = c.args in
    numbers_fit (maximum_in a.model a.bytes.now) (held_in a.model a.bytes.now) ≡ c.numbers_fit.result
tested c =
    let a = c.args in
    ap (λ (m : ℕ). numbers_fit m (held_in a.model a.bytes.now)) (sym (maximum_is c.args.model c.args.bytes.now _ _ c.order_of-order.ensures c.word-maximum.ensures))
    ∙ ap (numbers_fit c.word-maximum.result) (sym (held_is c.args.model c.args.bytes.now _ _ c.order_of-order.ensures c.word-held.ensures))
    ∙ sym c.numbers_fit.ensures

small : (c : Else-not-numbers_fit) →
    let maximum = c.word-maximum.result in
    (1 ≤ maximum) × (maximum ≤ longest) × (c.word-held.result ≤ maximum)
small c =
    numbers_within c.word-maximum.result c.word-held.result
    (sym c.numbers_fit.ensures ∙ c.if-not-numbers_fit.false)

long : (c : Else-bytes-held) → let a = c.args in
    length_in a.bytes.now ≡ queue_least + energy_width * held_in a.model a.bytes.now
long c = omega (arith, c.requires.1, c.if-bytes-held.false, held_is c.args.model c.args.bytes.now _ _ c.order_of-order.ensures c.word-held.ensures)

looked : (c : After-energies_fit) → let a = c.args in
    all_fit (patterns_in a.model a.bytes.now) ≡ c.energies_fit.result
looked c =
    let bytes = c.args.bytes.now in
    let held = held_is c.args.model bytes _ _ c.order_of-order.ensures c.word-held.ensures in
    let part = rest_is bytes least_length in
    let count : length (drop least_length bytes) / 8 ≡ held_in c.args.model bytes = omega (arith, length-drop least_length bytes, held, c.if-bytes-held.false) in
    sym (c.energies_fit.ensures
    ∙ ap (λ (fields : List ℕ). all_fit (numbers_in c.order_of-order.result energy_width (length fields / 8) fields)) part
    ∙ ap (λ (order : Order). all_fit (numbers_in order energy_width (length (drop least_length bytes) / 8) (drop least_length bytes))) c.order_of-order.ensures
    ∙ ap (λ (n : ℕ). all_fit (numbers_in (order_of (QueueKind c.args.model)) energy_width n (drop least_length bytes))) count)

pub returns-then-not-numbers_fit : goal.returns-then-not-numbers_fit
unfolding body_checked
returns-then-not-numbers_fit c = rw (tested (goal.at.returns-then-not-numbers_fit c).After-numbers_fit ∙ c.if-not-numbers_fit.true)

pub overflow_mul-held : goal.overflow_mul-held
overflow_mul-held c = omega (arith, (small (goal.at.overflow_mul-held c).Else-not-numbers_fit).1, (small (goal.at.overflow_mul-held c).Else-not-numbers_fit).2)

pub overflow_add-held : goal.overflow_add-held
overflow_add-held c = omega (arith, (small (goal.at.overflow_add-held c).Else-not-numbers_fit).1, (small (goal.at.overflow_add-held c).Else-not-numbers_fit).2)

pub returns-then-bytes-held : goal.returns-then-bytes-held
unfolding body_checked
returns-then-bytes-held c =
    let a = c.args in
    let bytes = a.bytes.now in
    rw (
      tested (goal.at.returns-then-bytes-held c).After-numbers_fit ∙ c.if-not-numbers_fit.false,
      ne_eqb (length_in bytes) (queue_least + energy_width * held_in a.model bytes)
          (λ l. c.if-bytes-held.true (omega (arith, c.requires.0, c.requires.1, held_is c.args.model c.args.bytes.now _ _ c.order_of-order.ensures c.word-held.ensures))),
    )

pub returns-then-not-energies_fit : goal.returns-then-not-energies_fit
unfolding body_checked
returns-then-not-energies_fit c =
    let a = c.args in
    let bytes = a.bytes.now in
    rw (
      tested (goal.at.returns-then-not-energies_fit c).After-numbers_fit ∙ c.if-not-numbers_fit.false,
      eq-eqb (length_in bytes) (queue_least + energy_width * held_in a.model bytes) (long (goal.at.returns-then-not-energies_fit c).Else-bytes-held),
      looked (goal.at.returns-then-not-energies_fit c).After-energies_fit ∙ c.if-not-energies_fit.true,
    )

pub returns : goal.returns
unfolding body_checked
returns c =
    let a = c.args in
    let bytes = a.bytes.now in
    let held = c.word-held.result in
    let queue : ◌≡◌ {A = Queue} (record { maximum = c.word-maximum.result; head = 0; held = held }) (queue_in a.model bytes) =
    ap (λ (n : ℕ). record { maximum = n; head = 0; held = held }) (maximum_is c.args.model c.args.bytes.now _ _ c.order_of-order.ensures c.word-maximum.ensures)
    ∙ ap (λ (n : ℕ). record { maximum = maximum_in a.model bytes; head = 0; held = n }) (held_is c.args.model c.args.bytes.now _ _ c.order_of-order.ensures c.word-held.ensures) in
    rw (
      tested (goal.at.returns c).After-numbers_fit ∙ c.if-not-numbers_fit.false,
      eq-eqb (length_in bytes) (queue_least + energy_width * held_in a.model bytes) (long (goal.at.returns c).Else-bytes-held),
      looked (goal.at.returns c).After-energies_fit ∙ c.if-not-energies_fit.false,
    )
    (ap says queue)
