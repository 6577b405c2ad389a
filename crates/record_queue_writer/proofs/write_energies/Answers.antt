-- `record_queue_writer::write_energies` meets its contract. The invariant: what is left to write gives what all of it gives. Assumes nothing.
use Rattle.std.proofs.Common.{◌∙◌, ◌+◌, ◌-◌, ◌*◌, ℕ, List, sym, ap, get_or, drop, arith}
use Rattle.std.proofs.lemmas.List.Edits.{sets}
use Rattle.base_fields.specs.Field.{bytes_of}
use Rattle.record_layout.specs.Layout.{all_bytes}
use Rattle.record_layout.proofs.Runs.{all_length}
use Rattle.record_layout.proofs.Turns.{write_turn, write_end, low_put, sets_whole}
use Rattle.record_queue_reader.specs.QueueRecord.{patterns_of}
use Rattle.record_queue_writer.proofs.Places.{patterns_length, pattern_at}
use Rattle.record_queue_writer.proofs.write_energies.Goals as goal

pub loop-i-init : goal.loop-i-init
loop-i-init c =
    let a = c.args in
    let patterns = patterns_of a.energies.now in
    sets_whole a.fields.now (all_bytes a.order 8 patterns) (omega (arith, all_length a.order 8 patterns, patterns_length a.energies.now))

pub loop-i-preserved : goal.loop-i-preserved
loop-i-preserved c =
    let a = c.args in
    let energies = a.energies.now in
    let patterns = patterns_of energies in
    let l = c.loop-i in
    let at = 8 * l.i in
    let next = 8 * (l.i + 1) in
    ap (λ (o : List ℕ). sets o next (all_bytes a.order 8 (drop (l.i + 1) patterns)))
    (low_put a.order l.fields c.put_number.new.field at 8 (at + 8 - at) c.low_first-number.result (get_or patterns l.i 0) (omega arith) (omega arith) c.put_number.ensures
    (c.low_first-number.ensures ∙ ap (bytes_of a.order 8) (c.pattern_of.ensures ∙ sym (pattern_at energies l.i (omega arith)))))
    ∙ write_turn a.order 8 l.fields patterns at next l.i (omega (arith, patterns_length energies)) (omega arith)
    ∙ l.invariant

pub returns : goal.returns
returns c =
    let l = c.loop-i in
    let energies = c.args.energies.now in
    sym (write_end c.args.order 8 l.fields (patterns_of energies) (8 * l.i) l.i (omega (arith, patterns_length energies))) ∙ l.invariant
