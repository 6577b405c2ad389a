-- `range_one::Blocks::ranked` meets its contract: the blocks below the gate, those left, and the bins of the two ranks. Assumes nothing.
use Rattle.std.proofs.Common.{ℕ, ◌-◌, map, sym, ap, ◌∙◌, arith}
use Rattle.std.proofs.lemmas.List.{length-map}
use Rattle.base_refusals.specs.Outcome.{Said, says}
use Rattle.range_ranks.specs.Span.{Span}
use Rattle.range_one.specs.Counted.{most_in_bin, left_in}
use Rattle.range_one.proofs.Counting.{blocks_all, counted_part, counted_below}
use Rattle.range_one.proofs.Answers.{left_none, left_read}
use Rattle.range_one.proofs.Blocks.ranked.Goals as goal

pub blocks_of_bins-before-requires : goal.blocks_of_bins-before-requires
blocks_of_bins-before-requires g c =
    let l = c.args.self.now.bins in
    omega (
      arith,
      counted_part g.C.Counter.counted l.counters.now c.min-bin.result,
      blocks_all most_in_bin (map g.C.Counter.counted l.counters.now) l.few,
      length-map l.counters.now g.C.Counter.counted,
      l.all,
    )

pub overflow_sub-left : goal.overflow_sub-left
overflow_sub-left g c = omega (arith, c.blocks_of_bins-before.ensures, c.args.self.now.together, counted_part g.C.Counter.counted c.args.self.now.bins.counters.now c.min-bin.result)

pub returns-then-left-eq0 : goal.returns-then-left-eq0
returns-then-left-eq0 g c =
    let l = c.args.self.now in
    let counts = map g.C.Counter.counted l.bins.counters.now in
    let before = c.blocks_of_bins-before.ensures ∙ counted_below g.C.Counter.counted l.bins.counters.now c.args.start c.min-bin.result l.bins.all c.min-bin.ensures in
    ap {B = Said Span} says (sym (left_none counts c.blocks_of_bins-before.result (l.count - c.blocks_of_bins-before.result) c.if-left-eq0.true)
    ∙ ap (λ (n : ℕ). left_in counts n (l.count - n)) before)

pub first_past-low-requires : goal.first_past-low-requires
first_past-low-requires g c =
    let l = c.args.self.now in
    let before = c.blocks_of_bins-before.ensures ∙ counted_below g.C.Counter.counted l.bins.counters.now c.min-bin.result c.min-bin.result l.bins.all (omega (arith, c.min-bin.ensures)) in
    (omega (arith, c.min-bin.ensures), before, omega arith)

pub returns : goal.returns
returns g c =
    let l = c.args.self.now in
    let counts = map g.C.Counter.counted l.bins.counters.now in
    let before = c.blocks_of_bins-before.ensures ∙ counted_below g.C.Counter.counted l.bins.counters.now c.args.start c.min-bin.result l.bins.all c.min-bin.ensures in
    c.of_bins.ensures
    ∙ ap {B = Said Span} says (
    left_read counts c.blocks_of_bins-before.result (l.count - c.blocks_of_bins-before.result) c.low_rank.result c.high_rank.result c.first_past-low.result.bin c.first_past-high.result.bin
    c.if-left-eq0.false c.low_rank.ensures c.high_rank.ensures c.first_past-low.ensures.0 c.first_past-high.ensures.0
    ∙ ap (λ (n : ℕ). left_in counts n (l.count - n)) before)
