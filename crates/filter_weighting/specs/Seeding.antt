-- A call of `seed` (01, step 4): "`seed` moves filter and interpolator state and writes no peak and no destination." Here it is the weighting's state.
use Rattle.std.specs.Prelude.{length}
use Rattle.base_refusals.specs.Outcome.{Outcome, went, NoValues, done}
use Rattle.base_refusals.specs.Rows.{by_rows}
use Rattle.filter_checks.specs.Calls.{seed_rows}
use Rattle.filter_recurrence.specs.declared.states.State.{State}
use Rattle.filter_recurrence.specs.Channels.{Weighing, state_after}

-- what a call comes to
unfoldable pub moved : Weighing → Outcome State NoValues
moved call = by_rows (seed_rows call.channels (length call.samples) call.map) (went (record { values = state_after call }) done)
