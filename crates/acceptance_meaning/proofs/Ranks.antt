-- Demand 2, the ranks, proved: "equality is proved for n below 2^46". The floats are worked out in crates/ranks, the n that arise in crates/range. Assumes nothing.
use Rattle.range_ranks.proofs.InFloats.{low_rank_is_the_rust's, high_rank_is_the_rust's}
use Rattle.acceptance_meaning.proofs.Arising.{histogram_ranks, queue_ranks}
use Rattle.acceptance_meaning.specs.Ranks.{RanksAreTheRusts}

pub ranks_are_the_rust's : RanksAreTheRusts
ranks_are_the_rust's = record {
  below = λ n h. (low_rank_is_the_rust's n h, high_rank_is_the_rust's n h);
  histograms = histogram_ranks;
  queues = queue_ranks;
}
