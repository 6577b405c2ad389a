use Rattle.std.proofs.Common.{◌≡◌}
use Rattle.history_histogram.specs.Merge.{room}
use Rattle.history_histogram.proofs.Room.{looked_to}
use Rattle.history_histogram.proofs.merging.has_room.Given as goal

abbrev pub invariant-loop-bin : goal.invariant-loop-bin
invariant-loop-bin l = looked_to l.into l.from l.fits l.bin ≡ room l.into l.from
