use Rattle.std.proofs.Common.{◌≡◌, ◌-◌, ◌*◌, ◌++◌, length, take, drop}
use Rattle.record_layout.specs.Layout.{numbers_in}
use Rattle.record_histogram.proofs.reader.read_words.Given as goal

abbrev pub invariant-loop-i : goal.invariant-loop-i
invariant-loop-i l = take l.i l.words ++ numbers_in l.order 4 (length l.words - l.i) (drop (4 * l.i) l.fields) ≡ numbers_in l.order 4 (length l.initial.words) l.fields
