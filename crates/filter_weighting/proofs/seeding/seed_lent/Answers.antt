-- `seeding::seed_lent` meets its contract: the check's refusal is the call's, and past it the state is what the definitions say. Assumes nothing.
use Rattle.std.proofs.Common.{◌≡◌, ℕ, ◌/◌, List, length, refl, sym, ap, subst, ◌∙◌}
use Rattle.std.proofs.lemmas.Result.{err_from_is_err_and}
use lib.ListN.{length-map}
use Rattle.base_refusals.specs.Refusal.{number}
use Rattle.base_refusals.specs.Outcome.{Outcome, said_by, kept_by, went, NoValues, done}
use Rattle.base_refusals.specs.Rows.{Row, number_of}
use Rattle.base_refusals.proofs.Numbers.{no_number}
use Rattle.base_refusals.proofs.Rows.{stopped, goes}
use Rattle.filter_checks.specs.Calls.{seed_rows}
use Rattle.filter_checks.proofs.Checking.{Seeds, seeds}
use Rattle.samples.specs.Sample.{samples_by}
use Rattle.samples.specs.Frames.{column}
use Rattle.samples.specs.Stretches.{Framed}
use Rattle.filter_recurrence.specs.declared.states.State.{State}
use Rattle.filter_recurrence.specs.Channels.{Weighing, weighing_of, over_used, state_after}
use Rattle.filter_recurrence.specs.Recurrence.{after, flushed}
use Rattle.filter_recurrence.proofs.Runs.{state_is}
use Rattle.filter_weighting.specs.Seeding.{moved}
use Rattle.filter_weighting.proofs.seeding.seed_lent.Given.{Over}
use Rattle.filter_weighting.proofs.seeding.seed_lent.Goals as goal
use Rattle.filter_weighting.proofs.seeding.seed_lent.Goals.{Start, In_ok-refused_seed}

-- the rows of a call of the definitions, and what it leaves
abbrev rows : Weighing → List Row
rows call = seed_rows call.channels (length call.samples) call.map

abbrev leaves : Weighing → Outcome State NoValues
leaves call = went (record { values = state_after call }) done

abbrev the_call : (g : Over) → Start g → Weighing
the_call g c = let a = c.args in weighing_of a.c (record { values = a.state.now }) a.channels (samples_by g.S.Sample.in_f64 a.samples.now) a.map.now

same_rows : (g : Over) (c : Start g) → number_of (seed_rows c.args.channels (length c.args.samples.now) c.args.map.now) ≡ number_of (rows (the_call g c))
same_rows g c =
    let a = c.args in
    ap (λ (n : ℕ). number_of (seed_rows a.channels n a.map.now)) (sym (length-map a.samples.now g.S.Sample.in_f64))

-- a call that passes its check
ok : (g : Over) (c : In_ok-refused_seed g) → Seeds c.args.channels (length c.args.samples.now) c.args.map.now
ok g c = let a = c.args in seeds a.channels (length a.samples.now) a.map.now (sym c.in_ok-refused_seed.ensures)

pub returns-in_err-refused_seed : goal.returns-in_err-refused_seed
unfolding moved
returns-in_err-refused_seed g c =
    let s = (goal.at.returns-in_err-refused_seed g c).Start in
    let call = the_call g s in
    let r = c.in_err-refused_seed.field-0.0 in
    let p = err_from_is_err_and c.from_residual.result c.from_residual.ensures.1 in
    let f = stopped (leaves call) (rows call) call.state (number r) (c.in_err-refused_seed.ensures ∙ same_rows g s) (no_number r) in
    rw (p.1, p.2) (f.says, ap (λ (k : State). k.values) f.keeps)

pub advance_all-requires : goal.advance_all-requires
advance_all-requires g c =
    let p = ok g (goal.at.advance_all-requires g c).In_ok-refused_seed in
    subst (λ (channels : ℕ). Framed channels (length c.args.samples.now)) p.bytes p.frames

pub returns : goal.returns
unfolding moved
returns g c =
    let a = c.args in
    let s = (goal.at.returns g c).Start in
    let call = the_call g s in
    let p = ok g (goal.at.returns g c).In_ok-refused_seed in
    let src = call.samples in
    let z = goes (leaves call) (rows call) (sym (c.in_ok-refused_seed.ensures ∙ same_rows g s)) in (
      ap said_by (sym z),
      c.advance_all.ensures
          ∙ ap (λ (channels : ℕ). over_used (λ k m. flushed (after a.c.a m (column src k channels (length src / channels)))) a.map.now 0 a.state.now) (sym p.bytes)
          ∙ state_is call (length src) p.frames.some refl
          ∙ sym (ap (λ (o : Outcome State NoValues). (kept_by call.state o).values) z),
    )
