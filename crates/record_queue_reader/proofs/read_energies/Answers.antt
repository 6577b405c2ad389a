-- `record_queue_reader::read_energies` meets its contract. The invariant: what is left to store gives what all of it gives, and fits. Assumes nothing.
use Rattle.std.proofs.Common.{◌≡◌, ◌∙◌, ◌+◌, ◌-◌, ◌*◌, ◌/◌, true, ℕ, List, sym, ap, length, drop, length-set, arith}
use Rattle.std.proofs.lemmas.List.{length-map}
use Rattle.std.proofs.lemmas.List.Edits.{sets}
use Rattle.std.specs.Float.{binary64}
use Rattle.std.specs.Float.Ieee.{of_bits}
use Rattle.base_fields.specs.Field.{number_in}
use Rattle.record_layout.specs.Layout.{numbers_in}
use Rattle.record_layout.proofs.Runs.{numbers_length}
use Rattle.record_layout.proofs.Turns.{all_left, sets_whole, chunk_number}
use Rattle.record_queue_reader.specs.QueueRecord.{energies_of, pattern_fits, all_fit}
use Rattle.record_queue_reader.proofs.Patterns.{each, store_turn, store_end_lem}
use Rattle.record_queue_reader.proofs.read_energies.Goals as goal
use Rattle.record_queue_reader.proofs.read_energies.Goals.{After-double_word}

pub loop-i-init : goal.loop-i-init
loop-i-init c =
    let a = c.args in
    let fields = a.fields.now in
    let store = a.store.now in
    let patterns = numbers_in a.order 8 (length store) fields in
    let all = all_left a.order 8 fields 0 (length store) in
    let n = length-map patterns (of_bits binary64) ∙ numbers_length a.order 8 (length store) fields in
    record {
      stored = ap (λ (p : List ℕ). sets store 0 (energies_of p)) all ∙ sets_whole store (energies_of patterns) (sym n);
      fit = ap all_fit all ∙ c.requires.1;
    }

read : (c : After-double_word) → c.double_word.result ≡ number_in c.args.order 8 (drop (8 * c.loop-i.i) c.args.fields.now)
read c =
    let fields = c.args.fields.now in
    chunk_number c.args.order 8 (length fields / 8) fields c.as_chunks.result.0.now c.loop-i.i c.double_word.result c.as_chunks.ensures.front (omega arith) c.double_word.ensures

-- the pattern that is read fits, and those after it
left_fit : (c : After-double_word) →
    let i = c.loop-i.i in
    let count = length c.loop-i.store in
    (pattern_fits c.double_word.result ≡ true) × (all_fit (numbers_in c.args.order 8 (count - (i + 1)) (drop (8 * (i + 1)) c.args.fields.now)) ≡ true)
left_fit c =
    let i = c.loop-i.i in
    let count = length c.loop-i.store in
    each c.args.order 8 c.args.fields.now (8 * i) (8 * (i + 1)) (count - i) (count - (i + 1)) c.double_word.result (omega arith) (omega arith) (read c) pattern_fits
    c.loop-i.invariant.fit

pub energy_of-requires : goal.energy_of-requires
energy_of-requires c = (left_fit (goal.at.energy_of-requires c).After-double_word).0

pub loop-i-preserved : goal.loop-i-preserved
loop-i-preserved c =
    let here = (goal.at.loop-i-preserved c).After-double_word in
    let l = c.loop-i in
    let i = l.i in
    let count = length l.store in
    record {
      stored =
          simp length-set
          (store_turn c.args.order 8 c.args.fields.now (8 * i) (8 * (i + 1)) (count - i) (count - (i + 1)) c.double_word.result (omega arith) (omega arith) (read here)
          l.store i c.energy_of.result c.energy_of.ensures
          ∙ l.invariant.stored);
      fit = simp length-set (left_fit here).1;
    }

pub returns : goal.returns
returns c =
    let l = c.loop-i in
    sym (store_end_lem c.args.order 8 (length l.store - l.i) l.i (drop (8 * l.i) c.args.fields.now) l.store (omega arith)) ∙ l.invariant.stored
    ∙ ap (λ (n : ℕ). energies_of (numbers_in c.args.order 8 n c.args.fields.now)) l.auto.store
