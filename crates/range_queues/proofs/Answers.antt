-- What held energies come to over a work slice, case by case, and the range over a set's queues. Assumes nothing.
use mathlib.Core.Path.{◌≡◌}
use mathlib.Core.Bool.{true, false}
use mathlib.Core.List.{List, [], ◌∷◌, ◌++◌}
use Prim.Native.Nat.{ℕ, ◌≤◌, ◌<◌}
use borrow.Author.Tests.{lt-ltb, le-ltb}
use lib.ListN.{length, drop}
use lib.Ieee.{Float}
use Rattle.base_refusals.specs.declared.Refusal.TheVariants.{ROOM}
use Rattle.base_refusals.specs.Outcome.{went, refused}
use Rattle.base_refusals.specs.Rows.{number_of}
use Rattle.base_refusals.proofs.Rows.{Refuses}
use Rattle.base_refusals.proofs.Behind.{stopped_first, goes_on}
use Rattle.history_set.specs.Set.{Histories, histories_of, set_rows}
use Rattle.order_rules.specs.Order.{in_order}
use Rattle.range_ranks.specs.Span.{not_a_number}
use Rattle.range_queues.specs.Rising.{listed_span}
use Rattle.range_queues.specs.Listed.{all_held, any_nan, placed_in, held_span, room_row, queue_range}
use Rattle.range_queues.specs.Inner.{listed_range}

module _ (held work : List Float) where
  pub listed_room : length work < length held → listed_range held work ≡ refused ROOM
  unfolding listed_range
  listed_room h = rw (lt-ltb (length work) (length held) h)

  pub listed_nan : length held ≤ length work → any_nan held ≡ true → listed_range held work ≡ went work not_a_number
  unfolding listed_range
  listed_nan h n = rw (le-ltb (length work) (length held) h, n)

  pub listed_went : length held ≤ length work → any_nan held ≡ false
      → listed_range held work ≡ went (in_order held ++ drop (length held) work) (listed_span (in_order held))
  unfolding listed_range
  listed_went h n = rw (le-ltb (length work) (length held) h, n)

-- ---- behind what refuses a set
module _ (h : Histories) (work : List Float) where
  abbrev held : List Float
  held = all_held (histories_of h)

  pub queues_refused : (n : ℕ) → n ≡ number_of (set_rows h) → (n ≡ 0 → ⊥) → Refuses (queue_range h work) work n
  unfolding queue_range
  queues_refused n e p = stopped_first (went (placed_in work held) (held_span held)) (set_rows h) (room_row work held ∷ []) work n e p

  pub queues_asked : number_of (set_rows h) ≡ 0 → queue_range h work ≡ listed_range held work
  unfolding queue_range listed_range
  queues_asked e = goes_on (went (placed_in work held) (held_span held)) (set_rows h) (room_row work held ∷ []) e
