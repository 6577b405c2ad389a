-- An energy added to a queue (01, step 7): "A new energy goes to place (head + held) mod maximum; a full queue drops its oldest, and head moves on by one, mod maximum.
-- Other places stay. NaN enters a queue."
use Rattle.std.specs.Prelude.{ℕ, ◌+◌, ◌%◌, not, cond, List, [], ◌∷◌, ◌++◌, ltb, length, set, drop, Float}
use Rattle.base_refusals.specs.declared.Refusal.TheVariants.{STORE}
use Rattle.base_refusals.specs.Outcome.{Outcome, went, NoValues, done, kept_by}
use Rattle.base_refusals.specs.Rows.{Row, row, by_rows}
use Rattle.bins.specs.Energy.{dropped, received}
use Rattle.history_queue.specs.declared.Queue.{Queue}
use Rattle.history_queue.specs.Queue.{Stored, over, suits}

-- the place of the next energy
abbrev pub next_place : Queue → ℕ
next_place queue = (queue.head + queue.held) % queue.maximum

-- the queue with one energy more; a full one has dropped its oldest
abbrev pub advanced : Queue → Queue
advanced queue =
    cond (ltb queue.held queue.maximum)
    (record { maximum = queue.maximum; head = queue.head; held = queue.held + 1 })
    (record { maximum = queue.maximum; head = (queue.head + 1) % queue.maximum; held = queue.held })

-- STORE: "queue maximum outside 1..36,000 or unlike its store; head not below maximum; held above maximum"
abbrev pub queue_rows : Stored → List Row
queue_rows s = row STORE (not (suits s.queue (length s.store))) ∷ []

-- the energy at its place, in the queue that has one more
abbrev pub with_energy : Stored → Float → Stored
with_energy s energy = over (advanced s.queue) (set s.store (next_place s.queue) energy)

unfoldable pub enqueued : Stored → Float → Outcome Stored NoValues
enqueued s energy = by_rows (queue_rows s) (went (received s energy (with_energy s energy)) done)

-- the energies that a queue holds after one more: it is the last, and the oldest of a full queue goes
abbrev pub with_newest : ℕ → List Float → Float → List Float
with_newest maximum held energy = cond (ltb (length held) maximum) held (drop 1 held) ++ (energy ∷ [])

-- ---- energies added one after the other
unfoldable pub fed_to : Stored → List Float → Stored
fed_to s [] = s
fed_to s (energy ∷ rest) = fed_to (kept_by s (enqueued s energy)) rest

-- those of them that are not dropped
unfoldable pub taken : List Float → List Float
taken [] = []
taken (energy ∷ rest) = cond (dropped energy) (taken rest) (energy ∷ taken rest)
