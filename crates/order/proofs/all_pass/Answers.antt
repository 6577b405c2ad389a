-- `order::all_pass` meets its contract. The invariant: the test passed up to what is left. Assumes nothing.
use Rattle.order_rules.proofs.Places.{last_part}
use Rattle.order.proofs.Runs.{look_start, look_on, look_end}
use Rattle.order.proofs.all_pass.Goals as goal

pub loop-rest-init : goal.loop-rest-init
loop-rest-init g c = look_start _ c.args.energies.now

pub loop-rest-preserved : goal.loop-rest-preserved
loop-rest-preserved g c =
    look_on c.loop-rest.invariant 64 c.loop-rest-test.true (c.stretch_passes.ensures c.if-not-stretch_passes.false) _ (last_part 64 c.loop-rest.rest.now)

pub returns : goal.returns
returns g c = λ e. look_end c.loop-rest.invariant (c.stretch_passes-2.ensures e)
