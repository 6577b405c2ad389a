-- `stretch::largest_on` meets its contract: the top is the largest of the frames so far. Assumes nothing.
use Rattle.std.proofs.Common.{◌+◌, ◌*◌, get_or, arith, sym, subst, ◌∙◌, mul-le-mul_right}
use lib.Ieee.{nan}
use Rattle.base_floats.proofs.Magnitude.{High, raised_high}
use Rattle.filter_sample_peak.proofs.Loudest.{next_largest, none_largest}
use Rattle.filter_sample_peak.proofs.stretch.largest_on.Goals as goal

pub loop-turn-init : goal.loop-turn-init
loop-turn-init c = let a = c.args in record {
  not_low = c.requires.plus_zero_value;
  so_far = sym (none_largest a.top a.stretch.now a.first a.step 0 (omega arith));
}

pub loop-turn-preserved : goal.loop-turn-preserved
loop-turn-preserved c =
    let a = c.args in
    let l = c.loop-turn in
    let x = get_or a.stretch.now (a.first + l.turn * a.step) nan in
    record {
      not_low = subst High (sym c.raise-high.ensures) (raised_high l.high x l.invariant.not_low);
      so_far = c.raise-high.ensures
          ∙ next_largest a.top l.high a.stretch.now a.first a.step l.turn (omega (arith, c.requires.reach.within, mul-le-mul_right a.step c.loop-turn-test.true)) l.invariant.so_far;
    }
