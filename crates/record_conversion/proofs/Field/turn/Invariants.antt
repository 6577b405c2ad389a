use Rattle.std.proofs.Common.{◌≡◌, ◌-◌, ◌*◌, drop}
use Rattle.std.proofs.lemmas.List.Edits.{sets}
use Rattle.record_conversion.specs.Inner.{width_of, each_turned}
use Rattle.record_conversion.proofs.Field.turn.Given as goal

abbrev pub invariant-loop-i : goal.invariant-loop-i
invariant-loop-i l = record {
  width : l.width ≡ width_of l.self;
  left : sets l.out (l.width * l.i) (each_turned l.width (l.count - l.i) (drop (l.width * l.i) l.bytes)) ≡ each_turned (width_of l.self) l.count l.bytes;
}
