-- A queue as the C interface takes it: its numbers, each in its own place, over its store.
use Rattle.std.specs.Prelude.{ℕ, List, Float}
use Rattle.base_refusals.specs.Outcome.{kept_by}
use Rattle.history_queue.specs.Queue.{Stored, over}
use Rattle.history_queue.specs.Adding.{enqueued}

abbrev pub queue_over : ℕ → ℕ → ℕ → List Float → Stored
queue_over maximum head held store = over (record { maximum = maximum; head = head; held = held }) store

-- the queue and its store after an energy was added, or refused
abbrev pub after_add : Stored → Float → Stored
after_add given energy = kept_by given (enqueued given energy)
