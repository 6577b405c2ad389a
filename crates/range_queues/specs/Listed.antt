-- The range over queues (01, step 9): "queues: all held energies in rising order". "A range over queues is lent a work slice: afterwards its first places hold
-- all held energies in rising order, the others stay. A queue holding NaN answers not-a-number, after all refusals, and the work slice stays."
use Rattle.std.specs.Prelude.{Bool, false, ◌||◌, cond, List, [], ◌∷◌, ◌++◌, ltb, length, drop, Float}
use Rattle.std.specs.Float.Ieee.{is_nan}
use Rattle.base_refusals.specs.declared.Refusal.TheVariants.{ROOM}
use Rattle.base_refusals.specs.Outcome.{Outcome, went}
use Rattle.base_refusals.specs.Rows.{Row, row, by_rows}
use Rattle.history_set.specs.Set.{History, counted, listed, Histories, histories_of, set_rows}
use Rattle.order_rules.specs.Order.{in_order}
use Rattle.range_ranks.specs.Span.{Span, not_a_number}
use Rattle.range_queues.specs.Rising.{listed_span}

-- all held energies, history by history, oldest first. A histogram has none
abbrev pub held_by : History → List Float
held_by (counted counters) = []
held_by (listed energies) = energies

unfoldable pub all_held : List History → List Float
all_held [] = []
all_held (history ∷ rest) = held_by history ++ all_held rest

unfoldable pub any_nan : List Float → Bool
any_nan [] = false
any_nan (energy ∷ rest) = is_nan energy || any_nan rest

-- what the work slice holds afterwards, and what is answered
abbrev pub placed_in : List Float → List Float → List Float
placed_in work held = cond (any_nan held) work (in_order held ++ drop (length held) work)

abbrev pub held_span : List Float → Span
held_span held = cond (any_nan held) not_a_number (listed_span (in_order held))

-- ROOM: "in a range over queues, work slice shorter than the blocks held"
abbrev pub room_row : List Float → List Float → Row
room_row work held = row ROOM (ltb (length work) (length held))

-- the range over the queues of a set, where the work slice holds `work`
unfoldable pub queue_range : Histories → List Float → Outcome (List Float) Span
queue_range h work =
    let held = all_held (histories_of h) in
    by_rows (set_rows h ++ room_row work held ∷ []) (went (placed_in work held) (held_span held))
