-- `true_peak_scan::frame` meets its contract: the sums carried on over the whole window are the phases. Assumes nothing.
use Rattle.std.proofs.Common.{take}
use Rattle.true_peak_interp.specs.Phase.{phases_by}
use Rattle.true_peak_scan.specs.Line.{back}
use Rattle.true_peak_scan.proofs.Windows.{carried_start, carried_turn, carried_end}
use Rattle.true_peak_scan.proofs.frame.Goals as goal
use lib.Ieee.{of_bits}

pub loop-i-init : goal.loop-i-init
unfolding of_bits
loop-i-init g c = carried_start c.args.taps.now g.row.N (take g.row.TAPS (back c.args.line.now c.args.at 24))

pub loop-i-preserved : goal.loop-i-preserved
loop-i-preserved g c =
    let a = c.args in
    let l = c.loop-i in
    carried_turn a.taps.now g.row.N a.line.now a.at g.row.TAPS l.i l.sums c.carry_on.new.sums c.requires.table.window c.loop-i-test.true c.carry_on.ensures.size c.carry_on.ensures.each l.invariant

pub returns : goal.returns
unfolding phases_by
returns g c =
    let a = c.args in
    carried_end a.taps.now g.row.N a.line.now a.at g.row.TAPS c.loop-i.i c.loop-i.sums c.requires.table.window c.loop-i-test.false c.loop-i.invariant
