-- `channels::frame` meets its contract: the definitions of one frame. Assumes nothing.
use Rattle.std.proofs.Common.{◌≡◌, set, ap, ◌∙◌}
use Rattle.filter_recurrence.specs.Recurrence.{output, shift, next, out}
use Rattle.filter_weighting.proofs.channels.frame.Goals as goal

pub returns : goal.returns
unfolding next out
returns c =
    let a = c.args in
    let u : c.output.result ≡ out a.c.a a.c.b a.m a.x = c.output.ensures ∙ ap (output a.c.b a.m) c.head-s0.ensures in
    record { value = c.shifted.ensures ∙ ap (shift a.m) c.head-s0.ensures; dest_after = ap (set a.dest.now a.j) u }
