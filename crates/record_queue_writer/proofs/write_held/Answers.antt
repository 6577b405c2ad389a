-- `record_queue_writer::write_held` meets its contract: the energies held are two slices of the store, one after the other. Assumes nothing.
use mathlib.Core.Path.{◌≡◌, sym, ap, ◌∙◌}
use mathlib.Core.List.{List, ◌++◌}
use Prim.Native.Nat.{ℕ, ◌+◌, ◌-◌, ◌*◌}
use native.Mathlib.Omega.{arith}
use lib.ListN.{length, drop, length-append, length-take, length-drop}
use lib.Ieee.{Float}
use Rattle.history_queue.specs.declared.Parts.{Parts}
use Rattle.history_queue.specs.Queue.{over, held_of, slice, in_parts}
use Rattle.history_queue.proofs.Standing.{slice_length, Within, parts_within, held_in_store}
use Rattle.record_layout.specs.Layout.{all_bytes}
use Rattle.record_layout.proofs.Runs.{all_length}
use Rattle.record_layout.proofs.Turns.{rest_is}
use Rattle.record_queue_reader.specs.QueueRecord.{patterns_of}
use Rattle.record_queue_writer.proofs.Places.{patterns_length, parts_bytes, two_parts, held_number}
use Rattle.record_queue_writer.proofs.write_held.Goals as goal
use Rattle.record_queue_writer.proofs.write_held.Goals.{After-parts-parts}

abbrev lent : After-parts-parts → List Float
lent c = c.args.store.now

-- the parts are within the store, how long they are, and that they are all that is held
within : (c : After-parts-parts) → Within c.parts-parts.result (length (lent c))
within c = parts_within c.args.queue 0 (length (lent c)) c.parts-parts.result c.parts-parts.ensures

older_length : (c : After-parts-parts) → let parts = c.parts-parts.result in length (slice parts.from parts.until (lent c)) ≡ parts.until - parts.from
older_length c = slice_length c.parts-parts.result.from c.parts-parts.result.until (lent c) (within c).inside

newer_length : (c : After-parts-parts) → let parts = c.parts-parts.result in length (slice parts.start parts.end (lent c)) ≡ parts.end - parts.start
newer_length c = slice_length c.parts-parts.result.start c.parts-parts.result.end (lent c) (within c).within

both_parts : (c : After-parts-parts) → held_of (over c.args.queue (lent c)) ≡ in_parts c.parts-parts.result (lent c)
both_parts c =
    held_in_store c.args.queue (lent c) c.requires.0 ∙ ap (λ (at : Parts). in_parts at (lent c)) (sym c.parts-parts.ensures)

whole : (c : After-parts-parts) → let parts = c.parts-parts.result in parts.until - parts.from + (parts.end - parts.start) ≡ c.args.queue.held
whole c =
    let parts = c.parts-parts.result in
    let both = length-append (slice parts.from parts.until (lent c)) (slice parts.start parts.end (lent c)) in
    omega (arith, older_length c, newer_length c, both, ap length (both_parts c), held_number c.args.queue (lent c))

pub offset_bounds-store-parts : goal.offset_bounds-store-parts
offset_bounds-store-parts c = let w = within (goal.at.offset_bounds-store-parts c).After-parts-parts in omega arith

pub slice_bounds-older-count : goal.slice_bounds-older-count
slice_bounds-older-count c = let w = within (goal.at.slice_bounds-older-count c).After-parts-parts in omega arith

pub slice_bounds-older-start : goal.slice_bounds-older-start
slice_bounds-older-start c = let w = within (goal.at.slice_bounds-older-start c).After-parts-parts in omega arith

pub slice_bounds-older-end : goal.slice_bounds-older-end
slice_bounds-older-end c = let w = within (goal.at.slice_bounds-older-end c).After-parts-parts in omega arith

pub offset_bounds-store-parts-2 : goal.offset_bounds-store-parts-2
offset_bounds-store-parts-2 c = let w = within (goal.at.offset_bounds-store-parts-2 c).After-parts-parts in omega arith

pub slice_bounds-newer-count : goal.slice_bounds-newer-count
slice_bounds-newer-count c = let w = within (goal.at.slice_bounds-newer-count c).After-parts-parts in omega arith

pub slice_bounds-newer-start : goal.slice_bounds-newer-start
slice_bounds-newer-start c = let w = within (goal.at.slice_bounds-newer-start c).After-parts-parts in omega arith

pub slice_bounds-newer-end : goal.slice_bounds-newer-end
slice_bounds-newer-end c = let w = within (goal.at.slice_bounds-newer-end c).After-parts-parts in omega arith

pub slice_bounds-write_energies-end : goal.slice_bounds-write_energies-end
slice_bounds-write_energies-end c =
    let here = (goal.at.slice_bounds-write_energies-end c).After-parts-parts in
    omega (arith, older_length here, whole here, c.requires.1)

pub slice_bounds-write_energies-end-2 : goal.slice_bounds-write_energies-end-2
slice_bounds-write_energies-end-2 c =
    let here = (goal.at.slice_bounds-write_energies-end-2 c).After-parts-parts in
    let o = older_length here in
    let w = whole here in
    simp length-take (omega (arith, c.requires.1))

pub write_energies-requires : goal.write_energies-requires
write_energies-requires c =
    let here = (goal.at.write_energies-requires c).After-parts-parts in
    let o = older_length here in
    let w = whole here in
    simp length-take (omega (arith, c.requires.1))

pub slice_bounds-write_energies-count : goal.slice_bounds-write_energies-count
slice_bounds-write_energies-count c =
    let a = c.args in
    let here = (goal.at.slice_bounds-write_energies-count c).After-parts-parts in
    let older = slice c.parts-parts.result.from c.parts-parts.result.until a.store.now in
    let first = ap length c.write_energies.ensures ∙ all_length a.order 8 (patterns_of older) in
    let all = length-append c.write_energies.new.fields (drop (8 * length older) a.fields.now) in
    let o = older_length here in
    let n = newer_length here in
    let w = whole here in
    omega (arith, patterns_length older, length-drop (8 * length older) a.fields.now, c.requires.1)

pub slice_bounds-write_energies-start : goal.slice_bounds-write_energies-start
slice_bounds-write_energies-start c =
    let a = c.args in
    let here = (goal.at.slice_bounds-write_energies-start c).After-parts-parts in
    let older = slice c.parts-parts.result.from c.parts-parts.result.until a.store.now in
    let first = ap length c.write_energies.ensures ∙ all_length a.order 8 (patterns_of older) in
    let all = length-append c.write_energies.new.fields (drop (8 * length older) a.fields.now) in
    let o = older_length here in
    let n = newer_length here in
    let w = whole here in
    omega (arith, patterns_length older, length-drop (8 * length older) a.fields.now, c.requires.1)

pub write_energies-requires-2 : goal.write_energies-requires-2
write_energies-requires-2 c =
    let a = c.args in
    let here = (goal.at.write_energies-requires-2 c).After-parts-parts in
    let older = slice c.parts-parts.result.from c.parts-parts.result.until a.store.now in
    let first = ap length c.write_energies.ensures ∙ all_length a.order 8 (patterns_of older) in
    let all = length-append c.write_energies.new.fields (drop (8 * length older) a.fields.now) in
    let o = older_length here in
    let n = newer_length here in
    let w = whole here in
    let base = c.write_energies.new.fields ++ drop (8 * length older) a.fields.now in
    ap length (rest_is base (8 * length older)) ∙ length-drop (8 * length older) base
    ∙ omega (arith, patterns_length older, length-drop (8 * length older) a.fields.now, c.requires.1)

pub returns : goal.returns
returns c =
    let a = c.args in
    let order = a.order in
    let here = (goal.at.returns c).After-parts-parts in
    let parts = c.parts-parts.result in
    let older = slice parts.from parts.until a.store.now in
    let newer = slice parts.start parts.end a.store.now in
    let first = ap length c.write_energies.ensures ∙ all_length order 8 (patterns_of older) in
    let second = ap length c.write_energies-2.ensures ∙ all_length order 8 (patterns_of newer) in
    two_parts c.write_energies.new.fields c.write_energies-2.new.fields a.fields.now (8 * length older) (omega (arith, first, patterns_length older))
    (omega (arith, second, patterns_length newer, older_length here, newer_length here, whole here, c.requires.1))
    ∙ ap (λ (l : List ℕ). l ++ c.write_energies-2.new.fields) c.write_energies.ensures
    ∙ ap (λ (l : List ℕ). all_bytes order 8 (patterns_of older) ++ l) c.write_energies-2.ensures
    ∙ parts_bytes order older newer
    ∙ ap (λ (l : List Float). all_bytes order 8 (patterns_of l)) (sym (both_parts here))
