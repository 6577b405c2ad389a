-- What a queue's record that passes has, and what its check and its reading come to. Assumes nothing.
use mathlib.Core.Path.{◌≡◌, ap, ◌∙◌}
use mathlib.Core.Bool.{true, ◌&&◌, and-eq-true_iff}
use mathlib.Core.List.{List, ◌++◌}
use Prim.Native.Nat.{ℕ, ◌+◌, ◌-◌, ◌*◌, ◌≤◌}
use native.Mathlib.Omega.{arith}
use borrow.Author.Tests.{eq-eqb, eqb-true, leb-true, not-false}
use lib.Dec.{eqb, leb}
use lib.ListN.{length, length-map, drop}
use lib.Seq.{sets, sets-eq}
use lib.Ieee.{Float, of_bits, binary64}
use Rattle.base_refusals.specs.declared.Refusal.TheVariants.{STORE, LENGTH, CONTENT}
use Rattle.base_refusals.specs.Outcome.{went, answers}
use Rattle.base_refusals.specs.Rows.{number_of, by_rows}
use Rattle.base_refusals.proofs.Rows.{goes, not_held, not_held_after}
use Rattle.base_refusals.proofs.Behind.{goes_on}
use Rattle.history_queue.specs.Queue.{longest}
use Rattle.record_layout.specs.declared.Model.{Model}
use Rattle.record_layout.specs.declared.Kind.TheVariants.{Queue as QueueKind}
use Rattle.record_layout.specs.Layout.{length_width, energy_width, queue_least, least_length, order_of, length_in, frame_rows}
use Rattle.record_layout.proofs.Frames.{framed}
use Rattle.record_layout.proofs.Runs.{numbers_length}
use Rattle.record_queue_reader.specs.QueueRecord.{
  maximum_in,
  held_in,
  patterns_in,
  numbers_fit,
  all_fit,
  energies_of,
  stored,
  queue_in,
  content_rows,
  check_rows,
  check_queue,
  store_rows,
  read_energies,
}
use Rattle.record_queue_reader.specs.Inner.{body_checked}

-- ---- bytes that pass the frame
module _ (model : Model) (bytes : List ℕ) (e : number_of (frame_rows (QueueKind model) bytes) ≡ 0) where
  -- they have room for the two numbers
  pub framed_long : least_length ≤ length bytes
  framed_long =
      let f = framed (QueueKind model) bytes e in
      omega (arith, f.long, f.length_is, leb-true queue_least (length_in bytes) f.can_be_lem)

  pub framed_length : length_in bytes ≡ length bytes - length_width
  framed_length = (framed (QueueKind model) bytes e).length_is

  pub check_behind : check_queue model bytes ≡ body_checked model bytes
  unfolding check_queue body_checked
  check_behind = goes_on (answers (queue_in model bytes)) (frame_rows (QueueKind model) bytes) (content_rows model bytes) e

-- ---- the content
-- a body that passes
pub record Sound (model : Model) (bytes : List ℕ) : Type 0 where
  pub numbers : numbers_fit (maximum_in model bytes) (held_in model bytes) ≡ true
  pub length_is : length_in bytes ≡ queue_least + energy_width * held_in model bytes
  pub fit : all_fit (patterns_in model bytes) ≡ true

module _ (model : Model) (bytes : List ℕ) where
  -- each fact is found by the name of its row
  pub sound : number_of (content_rows model bytes) ≡ 0 → Sound model bytes
  sound e =
      let rows = content_rows model bytes in
      let following = queue_least + energy_width * held_in model bytes in
      record {
        numbers = not-false (numbers_fit (maximum_in model bytes) (held_in model bytes)) (not_held CONTENT rows e);
        length_is = eqb-true (length_in bytes) following (not-false (eqb (length_in bytes) following) (not_held LENGTH rows e));
        fit = not-false (all_fit (patterns_in model bytes)) (not_held_after 1 CONTENT rows e);
      }

  pub sound_passes : Sound model bytes → number_of (content_rows model bytes) ≡ 0
  sound_passes f = rw (f.numbers, eq-eqb (length_in bytes) (queue_least + energy_width * held_in model bytes) f.length_is, f.fit)

-- ---- a record that passes, and a store
pub store_fits : (model : Model) (bytes : List ℕ) (store : List Float) → number_of (store_rows model bytes store) ≡ 0 → length store ≡ maximum_in model bytes
store_fits model bytes store e =
    eqb-true (length store) (maximum_in model bytes) (not-false (eqb (length store) (maximum_in model bytes)) (not_held STORE (store_rows model bytes store) e))

module _ (model : Model) (bytes : List ℕ) (store : List Float) (e : number_of (check_rows model bytes) ≡ 0) where
  pub read_behind : read_energies model bytes store ≡ by_rows (store_rows model bytes store) (went (stored model bytes store) (queue_in model bytes))
  unfolding read_energies
  read_behind = goes_on (went (stored model bytes store) (queue_in model bytes)) (check_rows model bytes) (store_rows model bytes store) e

  pub read_went : length store ≡ maximum_in model bytes → read_energies model bytes store ≡ went (stored model bytes store) (queue_in model bytes)
  read_went s =
      read_behind ∙ goes (went (stored model bytes store) (queue_in model bytes)) (store_rows model bytes store) (rw (eq-eqb (length store) (maximum_in model bytes) s))

-- ---- what numbers that fit keep
pub numbers_within : (maximum held : ℕ) → numbers_fit maximum held ≡ true → (1 ≤ maximum) × (maximum ≤ longest) × (held ≤ maximum)
unfolding numbers_fit
numbers_within maximum held h =
    let least = (and-eq-true_iff (leb 1 maximum) (leb maximum longest && leb held maximum)).0 h in
    let others = (and-eq-true_iff (leb maximum longest) (leb held maximum)).0 least.1 in
    (leb-true 1 maximum least.0, leb-true maximum longest others.0, leb-true held maximum others.1)

-- energies stored from the first place on
pub energies_count : (model : Model) (bytes : List ℕ) → length (energies_of (patterns_in model bytes)) ≡ held_in model bytes
energies_count model bytes =
    length-map (patterns_in model bytes) (of_bits binary64) ∙ numbers_length (order_of (QueueKind model)) energy_width (held_in model bytes) (drop least_length bytes)

pub stored_is : (model : Model) (bytes : List ℕ) (store : List Float) → held_in model bytes ≤ length store
    → sets store 0 (energies_of (patterns_in model bytes)) ≡ stored model bytes store
unfolding stored
stored_is model bytes store h =
    let n = energies_count model bytes in
    sets-eq (energies_of (patterns_in model bytes)) store 0 (omega (arith, n))
    ∙ ap (λ (k : ℕ). energies_of (patterns_in model bytes) ++ drop k store) {x = 0 + length (energies_of (patterns_in model bytes))} {y = held_in model bytes} (omega (arith, n))
