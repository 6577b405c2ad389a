-- What the inner functions of the weighting are stated by: a channel's frames, and what they make of state and destination.
use Rattle.std.specs.Prelude.{ℕ, ◌+◌, ◌*◌, ◌≤◌, ◌≡◌, List, Float}
use Rattle.std.proofs.lemmas.List.Edits.{sets}
use Rattle.samples.specs.Frames.{column, most_channels}
use Rattle.filter_recurrence.specs.declared.Memory.{Memory}
use Rattle.filter_recurrence.specs.Recurrence.{after, outs}
use Rattle.filter_recurrence.specs.Channels.{memory_of, with_memory}
use Rattle.filter_weighting.specs.declared.channels.Work.{Work}
use Rattle.filter_weighting.specs.Weighting.{Kept}

-- ---- channel k, by the interleaved samples

abbrev pub heard_in : Work → List Float → ℕ → List Float
heard_in work samples k = column samples k work.channels work.frames

-- its memory after its frames, and their outputs
abbrev pub memory_in : Work → List Float → ℕ → Memory → Memory
memory_in work samples k m = after work.c.a m (heard_in work samples k)

abbrev pub outs_in : Work → List Float → ℕ → Memory → List Float
outs_in work samples k m = outs work.c.a work.c.b m (heard_in work samples k)

-- those of a state, as flat values
abbrev pub given_in : Work → List Float → List Float → ℕ → List Float
given_in work samples values k = outs_in work samples k (memory_of values k)

-- where its outputs stand
abbrev pub place_of : Work → ℕ → ℕ
place_of work k = k * work.part + work.place

-- ---- state and destination

abbrev pub kept_of : List Float → List Float → Kept
kept_of values dest = record { state = record { values = values }; dest = dest }

-- channel k weighed: its memory after its frames, and their outputs in its part
abbrev pub weigh_one : Work → List Float → ℕ → Kept → Kept
weigh_one work samples k kept =
    kept_of
    (with_memory kept.state.values k (memory_in work samples k (memory_of kept.state.values k)))
    (sets kept.dest (place_of work k) (outs_in work samples k (memory_of kept.state.values k)))

-- ---- what the inner functions rely on once nothing is refused

-- the frames, from the place of each part on, lie within each of the parts
pub record Parts (work : Work) (mapped room : ℕ) : Type 0 where
  pub few : work.channels ≤ most_channels
  pub bytes : work.channels ≡ mapped
  pub parts : work.part * work.channels ≡ room
  pub fits : work.place + work.frames ≤ work.part
