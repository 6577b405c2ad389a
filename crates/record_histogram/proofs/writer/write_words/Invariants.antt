use Rattle.std.proofs.Common.{◌≡◌, ◌*◌, drop}
use Rattle.std.proofs.lemmas.List.Edits.{sets}
use Rattle.record_layout.specs.Layout.{all_bytes}
use Rattle.record_histogram.proofs.writer.write_words.Given as goal

abbrev pub invariant-loop-i : goal.invariant-loop-i
invariant-loop-i l = sets l.fields (4 * l.i) (all_bytes l.order 4 (drop l.i l.words)) ≡ all_bytes l.order 4 l.words
