-- `true_peak::carry` meets its contract: the places done have the later samples, the others are as they were. Assumes nothing.
use Rattle.std.proofs.Common.{arith, rules}
use Rattle.true_peak.proofs.Lines.{moved_start, moved_turn, moved_end}
use Rattle.true_peak.proofs.carry.Goals as goal

pub loop-k-init : goal.loop-k-init
loop-k-init c = (c.told-line, moved_start c.args.line.now c.args.n)

pub loop-k-preserved : goal.loop-k-preserved
loop-k-preserved c =
    let l = c.loop-k in
    (search rules, moved_turn c.args.line.now l.line c.args.n l.k (omega arith) l.invariant.1)

pub returns : goal.returns
returns c =
    let l = c.loop-k in
    moved_end c.args.line.now l.line c.args.n l.k c.loop-k-test.false l.invariant.1
