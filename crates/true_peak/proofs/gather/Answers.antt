-- `true_peak::gather` meets its contract: what is left to store gives what the whole run gives. Assumes nothing.
use Rattle.std.proofs.Common.{◌+◌, ◌*◌, ◌<◌, map, length, ◌∙◌, arith}
use Rattle.std.specs.Float.{nan}
use lib.ListN.{length-map}
use Rattle.samples.proofs.Columns.{read_as}
use Rattle.true_peak.proofs.Lines.{gathered_start, gathered_turn, gathered_end, sample_left}
use Rattle.true_peak.proofs.gather.Goals as goal

pub loop-k-init : goal.loop-k-init
loop-k-init g c = let a = c.args in gathered_start (map g.S.Sample.in_f32 a.samples.now) a.line.now a.first a.step a.n

pub loop-k-preserved : goal.loop-k-preserved
loop-k-preserved g c =
    let f = g.S.Sample.in_f32 in
    let a = c.args in
    let k = c.loop-k.k in
    let here : a.first + k * a.step < length a.samples.now = sample_left (length a.samples.now) a.first a.step a.n k c.loop-k-test.true c.requires.step_in_bounds in
    gathered_turn (map f a.samples.now) c.loop-k.line a.first a.step a.n k c.to_f32.result c.loop-k-test.true
    (omega (arith, here, length-map a.samples.now f))
    (c.to_f32.ensures ∙ read_as f a.samples.now (a.first + k * a.step) c.index-samples-first.result nan here c.index-samples-first.is)
    ∙ c.loop-k.invariant

pub returns : goal.returns
returns g c =
    let a = c.args in
    let k = c.loop-k.k in
    gathered_end (map g.S.Sample.in_f32 a.samples.now) c.loop-k.line (a.first + k * a.step) a.step a.n k c.loop-k-test.false ∙ c.loop-k.invariant
