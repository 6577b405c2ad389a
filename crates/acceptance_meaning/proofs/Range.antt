-- Demand 2, the range, proved: "Tech 3342 [decides] the meaning of .. range". OverQueues.antt and OverHistograms.antt carry the proof. Assumes nothing.
use Rattle.acceptance_meaning.proofs.OverQueues.{range_of_queues_lem, range_of_fed}
use Rattle.acceptance_meaning.proofs.OverHistograms.{range_of_histograms_lem}
use Rattle.acceptance_meaning.specs.Range.{RangeIsTech3342}

pub range_is_tech3342's : RangeIsTech3342
range_is_tech3342's = record {
  queues = λ question work q. range_of_queues_lem question work q.whole q.some q.only q.room q.numbers;
  fed = range_of_fed;
  histograms = λ question work h. range_of_histograms_lem question work h.whole h.only;
}
