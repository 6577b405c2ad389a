use Rattle.std.proofs.Common.{◌≡◌, ◌*◌, drop}
use Rattle.std.proofs.lemmas.List.Edits.{sets}
use Rattle.record_layout.specs.Layout.{all_bytes}
use Rattle.record_queue_reader.specs.QueueRecord.{patterns_of}
use Rattle.record_queue_writer.proofs.write_energies.Given as goal

abbrev pub invariant-loop-i : goal.invariant-loop-i
invariant-loop-i l = sets l.fields (8 * l.i) (all_bytes l.order 8 (drop l.i (patterns_of l.energies))) ≡ all_bytes l.order 8 (patterns_of l.energies)
