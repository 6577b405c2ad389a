-- The weighting's state after a call (01, step 4): every used channel's memory after its own samples, flushed at the end of the call.
-- "States and peaks for eight channels pass by value; places past the channel count stay." "An unused channel keeps state and destination."
use Rattle.std.specs.Prelude.{ℕ, suc, ◌+◌, ◌*◌, cond, List, [], ◌∷◌, Float}
use Rattle.std.proofs.lemmas.List.Edits.{sets}
use Rattle.samples.specs.Frames.{channel_of}
use Rattle.filter_checks.specs.Calls.{used}
use Rattle.filter_recurrence.specs.declared.Memory.{Memory}
use Rattle.filter_recurrence.specs.declared.Coefficients.{Coefficients}
use Rattle.filter_recurrence.specs.declared.states.State.{State}
use Rattle.base_floats.specs.Entry.{at}
use Rattle.filter_recurrence.specs.Recurrence.{after, flushed}

-- five places of the flat state a channel
abbrev pub state_places : ℕ
state_places = 40

-- channel k's five places of the flat state
abbrev pub memory_of : List Float → ℕ → Memory
memory_of values k =
    record { s0 = at values (k * 5); s1 = at values (k * 5 + 1); s2 = at values (k * 5 + 2); s3 = at values (k * 5 + 3); s4 = at values (k * 5 + 4) }

unfoldable pub with_memory : List Float → ℕ → Memory → List Float
with_memory values k m = sets values (k * 5) (m.s0 ∷ m.s1 ∷ m.s2 ∷ m.s3 ∷ m.s4 ∷ [])

-- each used channel's change made, from channel k on, one byte of the map each
unfoldable pub each_used : {S : Type 0} → (ℕ → S → S) → List ℕ → ℕ → S → S
each_used change [] k held = held
each_used change (byte ∷ bytes) k held = each_used change bytes (suc k) (cond (used byte) (change k held) held)

-- each used channel's memory changed
abbrev pub over_used : (ℕ → Memory → Memory) → List ℕ → ℕ → List Float → List Float
over_used change bytes k values = each_used (λ j v. with_memory v j (change j (memory_of v j))) bytes k values

-- what the weighting is given in a call; `samples` are the floats that the interleaved samples become
pub record Weighing : Type 0 where
  pub coefficients : Coefficients
  pub state : State
  pub channels : ℕ
  pub samples : List Float
  pub map : List ℕ

abbrev pub weighing_of : Coefficients → State → ℕ → List Float → List ℕ → Weighing
weighing_of coefficients state channels samples map =
    record { coefficients = coefficients; state = state; channels = channels; samples = samples; map = map }

-- channel k's samples in the call, in order
abbrev pub heard : Weighing → ℕ → List Float
heard call k = channel_of call.channels call.samples k

-- the flat state after the call
unfoldable pub state_after : Weighing → List Float
unfolding each_used after flushed
state_after call = over_used (λ k m. flushed (after call.coefficients.a m (heard call k))) call.map 0 call.state.values
