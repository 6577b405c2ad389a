-- How long a queue's record is, and that a head, two numbers and the energies' bytes are the record. Assumes nothing.
use mathlib.Core.Path.{◌≡◌, sym, ap, ◌∙◌}
use mathlib.Core.List.{List, ◌++◌}
use Prim.Native.Nat.{ℕ, ◌+◌, ◌*◌, ◌≤◌}
use native.Mathlib.Omega.{arith}
use lib.ListN.{length, drop, length-append}
use lib.Seq.{sets}
use lib.Ieee.{Float}
use Rattle.base_fields.specs.declared.Order.{Order}
use Rattle.base_fields.specs.Field.{bytes_of}
use Rattle.base_fields.proofs.Orders.{bytes_length}
use Rattle.record_layout.specs.declared.Model.{Model}
use Rattle.record_layout.specs.declared.Kind.TheVariants.{Queue as QueueKind}
use Rattle.record_layout.specs.Layout.{number_width, energy_width, queue_least, least_length, order_of, entry_bytes, with_head}
use Rattle.record_layout.proofs.Heads.{record_length_lem, record_put}
use Rattle.record_layout.proofs.Runs.{all_length}
use Rattle.record_layout.proofs.Turns.{sets_append}
use Rattle.record_queue_reader.specs.QueueRecord.{patterns_of}
use Rattle.record_queue_reader.specs.Inner.{maximum_at, held_at}
use Rattle.record_queue_writer.specs.Writing.{body_of, energies_record}
use Rattle.record_queue_writer.proofs.Places.{patterns_length}

module _ (model : Model) where
  abbrev order : Order
  order = order_of (QueueKind model)

  pub body_length : (maximum : ℕ) (energies : List Float) → length (body_of model maximum energies) ≡ 8 + energy_width * length energies
  body_length maximum energies =
      simp length-append
      (omega (arith, bytes_length order number_width maximum, bytes_length order number_width (length energies), all_length order energy_width (patterns_of energies), patterns_length energies))

  pub whole_length : (maximum : ℕ) (energies : List Float) → length (energies_record model maximum energies) ≡ least_length + energy_width * length energies
  unfolding energies_record
  whole_length maximum energies = omega (arith, record_length_lem (QueueKind model) (body_of model maximum energies), body_length maximum energies)

  -- the head, the two numbers and the energies, put into an output with room for all of them
  pub queue_put : (out : List ℕ) (maximum held following : ℕ) (energies : List Float) → held ≡ length energies → following ≡ queue_least + energy_width * length energies
      → least_length + energy_width * length energies ≤ length out
      → sets (sets (sets (with_head (QueueKind model) following out) maximum_at (bytes_of order number_width maximum)) held_at (bytes_of order number_width held)) least_length
      (entry_bytes (QueueKind model) (patterns_of energies))
      ≡ energies_record model maximum energies ++ drop (length (energies_record model maximum energies)) out
  unfolding energies_record
  queue_put out maximum held following energies e f h =
      let start = with_head (QueueKind model) following out in
      let first = bytes_of order number_width maximum in
      let second = bytes_of order number_width held in
      let rest = entry_bytes (QueueKind model) (patterns_of energies) in
      let l = body_length maximum energies in
      let m = bytes_length order number_width maximum in
      ap (λ (o : List ℕ). sets o least_length rest) (sym (sets_append start first second maximum_at held_at (omega (arith, m))))
      ∙ sym (sets_append start (first ++ second) rest maximum_at least_length (omega (arith, m, bytes_length order number_width held, length-append first second)))
      ∙ ap (λ (n : ℕ). sets start maximum_at (first ++ bytes_of order number_width n ++ rest)) e
      ∙ record_put (QueueKind model) following out (body_of model maximum energies) (omega (arith, l)) (omega (arith, l))
