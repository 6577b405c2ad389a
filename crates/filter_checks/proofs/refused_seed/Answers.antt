-- `filter_checks::refused_seed` meets its contract: the first refusal where there is one, and else the second. Assumes nothing.
use Rattle.std.proofs.Common.{sym}
use Rattle.std.proofs.lemmas.Result.{err_from_is_err_and}
use Rattle.base_refusals.specs.Refusal.{number}
use Rattle.base_refusals.proofs.Numbers.{no_number}
use Rattle.base_refusals.proofs.Rows.{number_first, number_next}
use Rattle.filter_checks.specs.Calls.{frame_rows, map_rows}
use Rattle.filter_checks.proofs.refused_seed.Goals as goal

pub returns-in_err-refused_frames : goal.returns-in_err-refused_frames
returns-in_err-refused_frames c =
    let a = c.args in
    let r = c.in_err-refused_frames.field-0.0 in
    let p = err_from_is_err_and c.from_residual.result c.from_residual.ensures.1 in
    rw (p.1, p.2) (number_first (frame_rows a.channels a.samples) (map_rows a.channels a.map.now) (number r) c.in_err-refused_frames.ensures (no_number r))

pub returns : goal.returns
returns c =
    let a = c.args in
    number_next (frame_rows a.channels a.samples) (map_rows a.channels a.map.now) _ (sym c.in_ok-refused_frames.ensures) c.refused_map.ensures
