-- `true_peak::keep` meets its contract: what is left to store gives what the whole run gives. Assumes nothing.
use Rattle.std.proofs.Common.{◌*◌, ◌∙◌}
use Rattle.true_peak_state.specs.Channel.{past}
use Rattle.true_peak.proofs.Lines.{kept_start, kept_turn, kept_end}
use Rattle.true_peak.proofs.keep.Goals as goal

pub loop-k-init : goal.loop-k-init
loop-k-init c = kept_start c.args.memory.now c.args.line.now (c.args.c * past)

pub loop-k-preserved : goal.loop-k-preserved
loop-k-preserved c =
    let l = c.loop-k in
    let a = c.args in
    kept_turn l.memory a.line.now (a.c * past) l.k c.loop-k-test.true ∙ l.invariant

pub returns : goal.returns
returns c =
    let l = c.loop-k in
    let a = c.args in
    kept_end l.memory a.line.now (a.c * past) l.k c.loop-k-test.false ∙ l.invariant
