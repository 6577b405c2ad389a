-- `interleaved_slices::frames_of` meets its contract: the check's refusal, or as many frames as the channels go into the samples. Assumes nothing.
use Rattle.std.proofs.Common.{sym, ap, ◌∙◌}
use Rattle.std.proofs.lemmas.Result.{err_from_is_err_and}
use Rattle.base_refusals.specs.Outcome.{says}
use Rattle.samples.specs.Frames.{frames_of}
use Rattle.samples.proofs.Columns.{frames_of_lem}
use Rattle.filter_checks.proofs.Checking.{frames_fine}
use Rattle.interleaved_slices.proofs.Checking.{goes, stops}
use Rattle.interleaved_slices.proofs.frames_of.Goals as goal

pub returns-in_err-refused_frames : goal.returns-in_err-refused_frames
returns-in_err-refused_frames c =
    let a = c.args in
    let p = err_from_is_err_and c.from_residual.result c.from_residual.ensures.1 in
    rw (p.1, p.2) (stops a.channels a.samples (frames_of a.channels a.samples) c.in_err-refused_frames.field-0.0 c.in_err-refused_frames.ensures)

pub nonzero_div-result : goal.nonzero_div-result
nonzero_div-result c = (frames_fine c.args.channels c.args.samples (sym c.in_ok-refused_frames.ensures)).some

pub returns : goal.returns
returns c =
    let a = c.args in
    let some = (frames_fine a.channels a.samples (sym c.in_ok-refused_frames.ensures)).some in
    ap says (sym (frames_of_lem a.channels a.samples some)) ∙ goes a.channels a.samples (frames_of a.channels a.samples) c.in_ok-refused_frames.ensures
