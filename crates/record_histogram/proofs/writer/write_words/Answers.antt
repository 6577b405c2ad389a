-- `writer::write_words` meets its contract. The invariant: what is left to write gives what all of it gives. Assumes nothing.
use Rattle.std.proofs.Common.{ℕ, ◌+◌, ◌-◌, ◌*◌, ◌∙◌, List, sym, ap, get_or, drop, arith}
use Rattle.std.proofs.lemmas.List.Edits.{sets}
use Rattle.base_fields.specs.Field.{low_bytes}
use Rattle.record_layout.specs.Layout.{all_bytes}
use Rattle.record_layout.proofs.Runs.{all_length}
use Rattle.record_layout.proofs.Turns.{write_turn, write_end, low_put, sets_whole}
use Rattle.record_histogram.proofs.writer.write_words.Goals as goal

pub loop-i-init : goal.loop-i-init
loop-i-init c =
    let a = c.args in
    sets_whole a.fields.now (all_bytes a.order 4 a.words.now) (omega (arith, all_length a.order 4 a.words.now))

pub loop-i-preserved : goal.loop-i-preserved
loop-i-preserved c =
    let a = c.args in
    let l = c.loop-i in
    let at = 4 * l.i in
    let next = 4 * (l.i + 1) in
    ap (λ (o : List ℕ). sets o next (all_bytes a.order 4 (drop (l.i + 1) a.words.now)))
    (low_put a.order l.fields c.put_number.new.field at 4 (at + 4 - at) c.from-number.result (get_or a.words.now l.i 0) (omega arith) (omega arith) c.put_number.ensures
    (ap (low_bytes 4) c.from-number.ensures ∙ c.low_first.ensures))
    ∙ write_turn a.order 4 l.fields a.words.now at next l.i (omega arith) (omega arith)
    ∙ l.invariant

pub returns : goal.returns
returns c =
    let l = c.loop-i in
    sym (write_end c.args.order 4 l.fields c.args.words.now (4 * l.i) l.i (omega arith)) ∙ l.invariant
