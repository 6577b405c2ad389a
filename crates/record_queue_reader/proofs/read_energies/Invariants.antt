use Rattle.std.proofs.Common.{◌≡◌, true, ◌-◌, ◌*◌, length, drop}
use Rattle.std.proofs.lemmas.List.Edits.{sets}
use Rattle.record_layout.specs.Layout.{numbers_in}
use Rattle.record_queue_reader.specs.QueueRecord.{energies_of, all_fit}
use Rattle.record_queue_reader.proofs.read_energies.Given as goal

abbrev pub invariant-loop-i : goal.invariant-loop-i
invariant-loop-i l = record {
  stored : sets l.store l.i (energies_of (numbers_in l.order 8 (length l.store - l.i) (drop (8 * l.i) l.fields))) ≡ energies_of (numbers_in l.order 8 (length l.store) l.fields);
  fit : all_fit (numbers_in l.order 8 (length l.store - l.i) (drop (8 * l.i) l.fields)) ≡ true;
}
