-- `stretch::raise_turn` meets its contract: the lanes left, from the tops as they are, give what all of them give. Assumes nothing.
use Rattle.std.proofs.Common.{sym, ap, ◌∙◌, refl, length, set, arith, get_or-set_other}
use lib.Ieee.{Float, nan, lt}
use Rattle.base_floats.specs.Entry.{plus_zero}
use Rattle.filter_sample_peak.proofs.Loudest.{channels_again, channels_end, channels_start}
use Rattle.filter_sample_peak.proofs.Lanes.{turn}
use Rattle.filter_sample_peak.proofs.stretch.raise_turn.Goals as goal

pub loop-j-init : goal.loop-j-init
loop-j-init c = record { gives = channels_start (turn c.args.turn.now) (length c.args.turn.now) c.args.tops.values; later = λ i h. refl }

pub raise-requires : goal.raise-requires
raise-requires c =
    let l = c.loop-j in
    ap (λ (x : Float). lt x plus_zero) (l.invariant.later l.j (omega arith)) ∙ c.requires.by_index l.j c.loop-j-test.true

pub loop-j-preserved : goal.loop-j-preserved
loop-j-preserved c =
    let l = c.loop-j in
    let t = c.args.turn.now in
    record {
      gives = channels_again (turn t) (length t) l.j l.w.values _ c.loop-j-test.true (ap (set l.w.values l.j) c.raise.ensures) ∙ l.invariant.gives;
      later = λ i h. get_or-set_other l.w.values l.j i c.raise.result nan (λ e. omega arith) ∙ l.invariant.later i (omega arith);
    }

pub returns : goal.returns
returns c =
    let l = c.loop-j in
    let t = c.args.turn.now in
    sym (channels_end (turn t) (length t) l.j l.w.values (omega arith)) ∙ l.invariant.gives
