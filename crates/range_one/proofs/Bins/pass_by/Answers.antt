-- `range_one::Bins::pass_by` meets its contract. The invariant: the bins from `near` on are left, and what stands below it is known and does not reach the
-- rank. Assumes nothing.
use Rattle.std.proofs.Common.{◌-◌, ◌*◌, ◌≤◌, length, map, drop, sym, ◌∙◌, arith}
use Rattle.std.proofs.lemmas.List.{take_all, length-map}
use lib.ListN.{length-drop}
use Rattle.bins.specs.Bin.{bins}
use Rattle.range_one.specs.Counted.{most_in_bin}
use Rattle.range_one.proofs.Counting.{blocks_all, group_counted, group_few, group_passed, group_inside}
use Rattle.range_one.proofs.Bins.pass_by.Goals as goal

pub loop-group-init : goal.loop-group-init
loop-group-init g c =
    let l = c.args.self.now.counters.now in
    let all : length (drop c.args.from.bin l) ≤ length l - c.args.from.bin = omega (arith, length-drop c.args.from.bin l) in record {
      left = sym (take_all (length l - c.args.from.bin) (drop c.args.from.bin l) all) ∙ sym c.chunks_exact-group-items.ensures.rest ∙ cc;
      short = c.requires;
    }

pub blocks_of_bins-requires : goal.blocks_of_bins-requires
blocks_of_bins-requires g c =
    let l = c.args.self.now in
    let few = blocks_all most_in_bin (map g.C.Counter.counted l.counters.now) l.few in
    omega (
      arith,
      group_few g.C.Counter.counted l.counters.now c.in-Some.group.now c.next.new.self.rest.now c.loop-group.near.bin
          (c.loop-group.invariant.left ∙ c.in-Some.ensures.steps.1.0) (bins * most_in_bin) (omega (arith, few, length-map l.counters.now g.C.Counter.counted, l.all)),
    )

pub overflow_add-before : goal.overflow_add-before
overflow_add-before g c =
    let l = c.args.self.now in
    let few = blocks_all most_in_bin (map g.C.Counter.counted l.counters.now) l.few in
    omega (
      arith,
      c.blocks_of_bins.ensures,
      c.loop-group.invariant.short.1,
      group_few g.C.Counter.counted l.counters.now c.in-Some.group.now c.next.new.self.rest.now c.loop-group.near.bin
          (c.loop-group.invariant.left ∙ c.in-Some.ensures.steps.1.0) (bins * most_in_bin) (omega (arith, few, length-map l.counters.now g.C.Counter.counted, l.all)),
    )

pub returns-then-rank-before : goal.returns-then-rank-before
returns-then-rank-before g c = c.loop-group.invariant.short

pub overflow_add-near : goal.overflow_add-near
overflow_add-near g c =
    let l = c.args.self.now in
    omega (
      arith,
      l.all,
      group_inside g.C.Counter.counted l.counters.now c.in-Some.group.now c.next.new.self.rest.now c.loop-group.near.bin
          (c.loop-group.invariant.left ∙ c.in-Some.ensures.steps.1.0) (omega (arith, l.all, c.loop-group.invariant.short.0)),
    )

pub loop-group-preserved : goal.loop-group-preserved
loop-group-preserved g c =
    let l = c.args.self.now in
    let next = c.loop-group.invariant.left ∙ c.in-Some.ensures.steps.1.0 in
    let bin = c.loop-group.near.bin in
    let group = c.in-Some.group.now in
    let rest = c.next.new.self.rest.now in record {
      left = group_passed g.C.Counter.counted l.counters.now group rest bin next;
      short = (
        omega (arith, l.all, group_inside g.C.Counter.counted l.counters.now group rest bin next (omega (arith, l.all, c.loop-group.invariant.short.0))),
        omega (arith, c.blocks_of_bins.ensures, c.loop-group.invariant.short.1, group_counted g.C.Counter.counted l.counters.now group rest bin next),
        omega (arith, c.if-rank-before.false),
      );
    }

pub returns : goal.returns
returns g c = c.loop-group.invariant.short
