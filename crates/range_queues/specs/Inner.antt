-- What the steps of the range over queues are stated by: where the energies of an entry stand, and how many there can be.
use Rattle.std.specs.Prelude.{Bool, true, false, ◌||◌, List, [], ◌∷◌, ℕ, ◌+◌, ◌*◌, length, Float}
use Rattle.base_refusals.specs.Outcome.{Outcome, went}
use Rattle.base_refusals.specs.Rows.{by_rows}
use Rattle.history_queue.specs.declared.Parts.{Parts}
use Rattle.history_queue.specs.Queue.{longest, suits, nowhere, parts_of}
use Rattle.history_set.specs.declared.set.Entry.{Entry}
use Rattle.history_set.specs.declared.set.Shape.{Shape}
use Rattle.history_set.specs.declared.set.Shape.TheVariants.{Histogram, Queue as Queue-at}
use Rattle.history_set.specs.Set.{most_histories, shape_shows, all_show}
use Rattle.range_ranks.specs.Span.{Span}
use Rattle.range_queues.specs.declared.Seen.{Seen}
use Rattle.range_queues.specs.Listed.{held_by, all_held, any_nan, placed_in, held_span, room_row}

-- the most energies that 16 queues hold
abbrev pub most_held : ℕ
most_held = most_histories * longest

-- the energies that the entries hold. Counters play no part in it
abbrev pub held_in : List Float → List Entry → List Float
held_in energies l = all_held (all_show [] energies l)

-- those of one entry
abbrev pub held_at : List Float → Entry → List Float
held_at energies entry = held_by (shape_shows [] energies entry.shape)

-- a queue that suits its store
abbrev pub suits_at : Shape → Bool
suits_at (Histogram start) = true
suits_at (Queue-at start queue) = suits queue queue.maximum

-- where the energies of an entry stand among so many
abbrev pub parts_at : Shape → ℕ → Parts
parts_at (Histogram start) places = nowhere
parts_at (Queue-at start queue) places = parts_of queue start places

-- what was seen of energies, and then of more: how many there are, and whether one is NaN
abbrev pub with_seen : Seen → List Float → Seen
with_seen before energies = record {
  blocks = before.blocks + length energies;
  nan = before.nan || any_nan energies;
}

abbrev pub seen_of : List Float → Seen
seen_of energies = with_seen (record { blocks = 0; nan = false }) energies

-- what held energies come to over a work slice, behind what refuses a set
unfoldable pub listed_range : List Float → List Float → Outcome (List Float) Span
listed_range held work = by_rows (room_row work held ∷ []) (went (placed_in work held) (held_span held))
