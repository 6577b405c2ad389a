-- `range_one::Bins::first_past` meets its contract. The invariant: what stands below `bin` is known, and does not reach the rank. Assumes nothing.
use Rattle.std.proofs.Common.{◌≡◌, ℕ, ◌+◌, length, map, take, ap, ◌∙◌, arith}
use Rattle.std.proofs.lemmas.List.{get_or-map, length-map}
use Rattle.bins.specs.Bin.{bins}
use Rattle.range_one.specs.Counted.{blocks_in, most_in_bin}
use Rattle.range_one.proofs.Counting.{blocks_more, blocks_part, blocks_all}
use Rattle.range_one.proofs.Searching.{found_at}
use Rattle.range_one.proofs.Bins.first_past.Goals as goal

pub loop-bin-init : goal.loop-bin-init
loop-bin-init g c = record { known = c.pass_by-near.ensures.1; few = c.pass_by-near.ensures.2 }

pub overflow_add-next : goal.overflow_add-next
overflow_add-next g c =
    let l = c.args.self.now in
    let counts = map g.C.Counter.counted l.counters.now in
    let long : length counts ≡ bins = length-map l.counters.now g.C.Counter.counted ∙ l.all in
    let read = get_or-map g.C.Counter.counted l.counters.now c.loop-bin.bin c.index-self-bin.result 0 (omega (arith, l.all)) in
    omega (
      arith,
      c.wide.ensures,
      c.loop-bin.invariant.known,
      read,
      blocks_more counts c.loop-bin.bin (omega (arith, long)),
      blocks_part counts (c.loop-bin.bin + 1),
      blocks_all most_in_bin counts l.few,
      long,
    )

pub returns-then-rank-next : goal.returns-then-rank-next
returns-then-rank-next g c =
    let l = c.args.self.now in
    let counts = map g.C.Counter.counted l.counters.now in
    let long : length counts ≡ bins = length-map l.counters.now g.C.Counter.counted ∙ l.all in
    let read = get_or-map g.C.Counter.counted l.counters.now c.loop-bin.bin c.index-self-bin.result 0 (omega (arith, l.all)) in (
      found_at c.args.rank counts c.loop-bin.bin (omega (arith, long)) (omega (arith, c.loop-bin.invariant.known, c.loop-bin.invariant.few)) (λ _. omega (arith, c.wide.ensures, read, c.loop-bin.invariant.known, c.if-rank-next.true)),
      (omega arith, c.loop-bin.invariant.known, c.loop-bin.invariant.few),
    )

pub loop-bin-preserved : goal.loop-bin-preserved
loop-bin-preserved g c =
    let l = c.args.self.now in
    let counts = map g.C.Counter.counted l.counters.now in
    let long : length counts ≡ bins = length-map l.counters.now g.C.Counter.counted ∙ l.all in
    let read = get_or-map g.C.Counter.counted l.counters.now c.loop-bin.bin c.index-self-bin.result 0 (omega (arith, l.all)) in record {
      known = omega (arith, c.wide.ensures, read, c.loop-bin.invariant.known, blocks_more counts c.loop-bin.bin (omega (arith, long)));
      few = omega (arith, c.if-rank-next.false);
    }

pub returns : goal.returns
returns g c =
    let l = c.args.self.now in
    let counts = map g.C.Counter.counted l.counters.now in
    let long : length counts ≡ bins = length-map l.counters.now g.C.Counter.counted ∙ l.all in
    let all : c.loop-bin.bin ≡ bins = omega (arith, c.pass_by-near.ensures.0) in
    let known : c.loop-bin.before ≡ blocks_in (take bins counts) = c.loop-bin.invariant.known ∙ ap (λ (n : ℕ). blocks_in (take n counts)) all in (
      found_at c.args.rank counts bins (omega (arith, long)) (omega (arith, known, c.loop-bin.invariant.few)) (λ k. absurd (omega (arith, k, long))),
      (omega arith, known, c.loop-bin.invariant.few),
    )
