use Rattle.std.proofs.Common.{◌≡◌, ◌+◌, ◌*◌, ◌≤◌, drop}
use Rattle.history_histogram.specs.Histogram.{largest_count}
use Rattle.gate.specs.Totals.{blocks_in}
use Rattle.gate.proofs.blocks.count_blocks.Given as goal

abbrev pub invariant-loop-count : goal.invariant-loop-count
invariant-loop-count l = (l.all ≤ l.count-index * largest_count) × (l.all + blocks_in (drop l.count-index l.blocks) ≡ blocks_in l.blocks)
