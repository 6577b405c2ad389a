-- The queue (01, step 7): its numbers, what makes a store its own, and the energies that it holds.
use Rattle.std.specs.Prelude.{ℕ, zero, suc, ◌+◌, ◌-◌, ◌%◌, min, Bool, not, ◌&&◌, cond, List, [], ◌∷◌, ◌++◌, eqb, leb, ltb, get_or, take, drop, Float}
use Rattle.std.specs.Float.{nan}
use Rattle.history_queue.specs.declared.Queue.{Queue}
use Rattle.history_queue.specs.declared.Parts.{Parts}

-- the longest queue
abbrev pub longest : ℕ
longest = 36000

-- a queue over its store
pub record Stored : Type 0 where
  pub queue : Queue
  pub store : List Float

abbrev pub over : Queue → List Float → Stored
over queue store = record { queue = queue; store = store }

-- STORE: "queue maximum outside 1..36,000 or unlike its store; head not below maximum; held above maximum"
unfoldable pub suits : Queue → ℕ → Bool
suits queue length =
    leb 1 queue.maximum && (leb queue.maximum longest && (eqb queue.maximum length && (ltb queue.head queue.maximum && leb queue.held queue.maximum)))

-- a queue with no energy
abbrev pub started : ℕ → Queue
started maximum = record { maximum = maximum; head = 0; held = 0 }

-- the energies at `count` places from a place on, round the ring of the store
unfoldable pub held_from : List Float → ℕ → ℕ → ℕ → List Float
held_from store maximum place zero = []
held_from store maximum place (suc count) = get_or store (place % maximum) nan ∷ held_from store maximum (suc place) count

-- the energies that a queue holds, oldest first: those at (head + i) mod maximum, for i from 0 to held - 1
abbrev pub held_of : Stored → List Float
held_of s = held_from s.store s.queue.maximum s.queue.head s.queue.held

-- how many of them stand between the head and the end of the store
abbrev pub first_part : Queue → ℕ
first_part queue = min queue.held (queue.maximum - queue.head)

-- ---- where they stand in a slice of energies in which the store starts at a place
-- whether the store suits the queue and ends within so many places
abbrev pub stands : Queue → ℕ → ℕ → Bool
stands queue start places = not (ltb places (start + queue.maximum)) && suits queue queue.maximum

-- the older ones up to the end of the store, the newer ones from its start
abbrev pub standing : Queue → ℕ → Parts
standing queue start = record {
  from = start + queue.head;
  until = start + queue.head + first_part queue;
  start = start;
  end = start + (queue.held - first_part queue);
}

abbrev pub nowhere : Parts
nowhere = record { from = 0; until = 0; start = 0; end = 0 }

unfoldable pub parts_of : Queue → ℕ → ℕ → Parts
parts_of queue start places = cond (stands queue start places) (standing queue start) nowhere

-- what stands from a place up to another, and in parts, one after the other
abbrev pub slice : {A : Type 0} → ℕ → ℕ → List A → List A
slice from until l = take (until - from) (drop from l)

abbrev pub in_parts : Parts → List Float → List Float
in_parts parts energies = slice parts.from parts.until energies ++ slice parts.start parts.end energies
