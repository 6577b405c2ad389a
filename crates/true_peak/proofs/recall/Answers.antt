-- `true_peak::recall` meets its contract: the places done hold the history back from the newest. Assumes nothing.
use Rattle.std.proofs.Common.{arith, rules}
use Rattle.true_peak.proofs.Lines.{recalled_start, recalled_turn, recalled_end}
use Rattle.true_peak.proofs.recall.Goals as goal

pub loop-k-init : goal.loop-k-init
loop-k-init c = (c.told-line, recalled_start c.args.memory.now c.args.line.now c.args.c)

pub loop-k-preserved : goal.loop-k-preserved
loop-k-preserved c =
    let l = c.loop-k in
    (search rules, recalled_turn c.args.memory.now l.line c.args.c l.k c.loop-k-test.true (omega arith) l.invariant.1)

pub returns : goal.returns
returns c =
    let l = c.loop-k in
    recalled_end c.args.memory.now l.line c.args.c l.k c.loop-k-test.false (omega arith) l.invariant.1
