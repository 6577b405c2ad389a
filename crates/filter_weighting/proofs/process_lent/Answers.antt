-- `filter_weighting::process_lent` meets its contract: the check's refusal is the call's, and past it state and destination are what the definitions say. Assumes nothing.
use Rattle.std.proofs.Common.{◌≡◌, ℕ, true, List, length, sym, ap, ◌∙◌, le_of_eq}
use Rattle.std.proofs.lemmas.Result.{err_from_is_err_and}
use lib.ListN.{length-map}
use lib.Ieee.{Float}
use Rattle.base_refusals.specs.Refusal.{number}
use Rattle.base_refusals.specs.Outcome.{Outcome, said_by, kept_by, went, NoValues, done}
use Rattle.base_refusals.specs.Rows.{number_of}
use Rattle.base_refusals.proofs.Numbers.{no_number}
use Rattle.base_refusals.proofs.Rows.{stopped, goes}
use Rattle.filter_checks.specs.declared.Sizes.{Sizes}
use Rattle.filter_checks.specs.Calls.{sizes, process_rows}
use Rattle.filter_checks.proofs.Checking.{Processes, processes}
use Rattle.samples.specs.Sample.{samples_by}
use Rattle.filter_recurrence.specs.Channels.{Weighing, weighing_of, state_after}
use Rattle.filter_recurrence.proofs.Runs.{state_is}
use Rattle.filter_weighting.specs.Weighting.{Kept, dest_after, weighing_rows, weighed}
use Rattle.filter_weighting.proofs.Destinations.{dest_is}
use Rattle.filter_weighting.proofs.process_lent.Given.{Over}
use Rattle.filter_weighting.proofs.process_lent.Goals as goal
use Rattle.filter_weighting.proofs.process_lent.Goals.{Start, In_ok-refused_process}

abbrev leaves : Weighing → List Float → ℕ → Outcome Kept NoValues
leaves call dest start = went (record { state = record { values = state_after call }; dest = dest_after call dest start }) done

-- the call of the definitions, and the number of its first row that holds
abbrev the_call : (g : Over) → Start g → Weighing
the_call g c = let a = c.args in weighing_of a.c (record { values = a.state.now }) a.channels (samples_by g.S.Sample.in_f64 a.samples.now) a.map.now

abbrev sizes_of : (g : Over) → Start g → Sizes
sizes_of g c = let a = c.args in sizes a.channels (length a.samples.now) (length a.dest.now) a.start

same_rows : (g : Over) (c : Start g) → number_of (process_rows true (sizes_of g c) c.args.map.now) ≡ number_of (weighing_rows (the_call g c) c.args.dest.now c.args.start)
same_rows g c =
    let a = c.args in
    ap (λ (n : ℕ). number_of (process_rows true (sizes a.channels n (length a.dest.now) a.start) a.map.now)) (sym (length-map a.samples.now g.S.Sample.in_f64))

-- a call that passes its check
ok : (g : Over) (c : In_ok-refused_process g) → Processes (sizes c.args.channels (length c.args.samples.now) (length c.args.dest.now) c.args.start) c.args.map.now
ok g c = processes _ c.args.map.now (sym c.in_ok-refused_process.ensures)

pub returns-in_err-refused_process : goal.returns-in_err-refused_process
unfolding weighed
returns-in_err-refused_process g c =
    let a = c.args in
    let s = (goal.at.returns-in_err-refused_process g c).Start in
    let call = the_call g s in
    let r = c.in_err-refused_process.field-0.0 in
    let p = err_from_is_err_and c.from_residual.result c.from_residual.ensures.1 in
    let f = stopped (leaves call a.dest.now a.start) (weighing_rows call a.dest.now a.start) (record { state = call.state; dest = a.dest.now }) (number r) (c.in_err-refused_process.ensures ∙ same_rows g s) (no_number r) in
    rw (p.1, p.2) (f.says, ap (λ (k : Kept). k.state.values) f.keeps, ap (λ (k : Kept). k.dest) f.keeps)

pub nonzero_div-work : goal.nonzero_div-work
nonzero_div-work g c = (ok g (goal.at.nonzero_div-work g c).In_ok-refused_process).seed.frames.some

pub nonzero_div-work-2 : goal.nonzero_div-work-2
nonzero_div-work-2 g c = (ok g (goal.at.nonzero_div-work-2 g c).In_ok-refused_process).seed.frames.some

pub weigh_all-requires : goal.weigh_all-requires
weigh_all-requires g c =
    let p = ok g (goal.at.weigh_all-requires g c).In_ok-refused_process in
    let k = p.seed.frames in
    record { channels_in_bounds = le_of_eq k.whole; parts = record { few = k.few; bytes = p.seed.bytes; parts = p.room.parts; fits = p.room.fits } }

pub returns : goal.returns
unfolding weighed
returns g c =
    let a = c.args in
    let s = (goal.at.returns g c).Start in
    let call = the_call g s in
    let some = (ok g (goal.at.returns g c).In_ok-refused_process).seed.frames.some in
    let n = length a.samples.now in
    let size = sym (length-map a.samples.now g.S.Sample.in_f64) in
    let z = goes (leaves call a.dest.now a.start) (weighing_rows call a.dest.now a.start) (sym (c.in_ok-refused_process.ensures ∙ same_rows g s)) in (
      ap said_by (sym z),
      c.weigh_all.ensures.state_after
          ∙ state_is call n some size
          ∙ sym (ap (λ (o : Outcome Kept NoValues). (kept_by (record { state = call.state; dest = a.dest.now }) o).state.values) z),
      c.weigh_all.ensures.dest_after
          ∙ dest_is call n some size a.dest.now a.start
          ∙ sym (ap (λ (o : Outcome Kept NoValues). (kept_by (record { state = call.state; dest = a.dest.now }) o).dest) z),
    )
