-- `filter_checks::refused_process` meets its contract: the first refusal where there is one, and else the second. Assumes nothing.
use Rattle.std.proofs.Common.{sym}
use Rattle.std.proofs.lemmas.Result.{err_from_is_err_and}
use Rattle.base_refusals.specs.Refusal.{number}
use Rattle.base_refusals.proofs.Numbers.{no_number}
use Rattle.base_refusals.proofs.Rows.{number_first, number_next}
use Rattle.filter_checks.proofs.Checking.{seeds}
use Rattle.filter_checks.specs.Calls.{seed_rows, dest_rows}
use Rattle.filter_checks.proofs.refused_process.Goals as goal

pub returns-in_err-refused_seed : goal.returns-in_err-refused_seed
returns-in_err-refused_seed c =
    let a = c.args in
    let s = a.sizes in
    let r = c.in_err-refused_seed.field-0.0 in
    let p = err_from_is_err_and c.from_residual.result c.from_residual.ensures.1 in
    rw (p.1, p.2) (number_first (seed_rows s.channels s.samples a.map.now) (dest_rows a.loudness s) (number r) c.in_err-refused_seed.ensures (no_number r))

pub refused_dest-requires : goal.refused_dest-requires
refused_dest-requires c =
    let a = c.args in
    (seeds a.sizes.channels a.sizes.samples a.map.now (sym c.in_ok-refused_seed.ensures)).frames.some

pub returns : goal.returns
returns c =
    let a = c.args in
    let s = a.sizes in
    number_next (seed_rows s.channels s.samples a.map.now) (dest_rows a.loudness s) _ (sym c.in_ok-refused_seed.ensures) c.refused_dest.ensures
