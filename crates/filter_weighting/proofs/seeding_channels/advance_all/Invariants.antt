use Rattle.std.proofs.Common.{◌≡◌, ◌*◌, ◌/◌, map, length}
use Rattle.std.specs.Slice.Iter.{chunks_rest, chunks_size}
use Rattle.samples.specs.Stretches.{run_places}
use Rattle.samples.specs.Stretches.{Framed}
use Rattle.filter_recurrence.specs.Channels.{state_places, over_used}
use Rattle.filter_recurrence.proofs.Runs.{hears}
use Rattle.filter_weighting.proofs.seeding_channels.advance_all.Given as goal

abbrev pub invariant-loop-part : goal.invariant-loop-part
invariant-loop-part g l =
    let channels = length l.bytes in
    let rest = chunks_rest l.part-iterator in
    let f = g.S.Sample.in_f64 in record {
      size : chunks_size l.part-iterator ≡ run_places / channels * channels;
      places : length l.run ≡ run_places;
      state : length l.state ≡ state_places;
      whole : Framed channels (length rest);
      gives : over_used (hears l.a channels (map f rest)) l.bytes 0 l.state ≡ over_used (hears l.a channels (map f l.fn.samples)) l.bytes 0 l.initial.state;
    }
