-- The range over a set of histories (01, step 9): "No histories or no blocks: Nothing. Histograms: counters added bin by bin; queues: all held energies in
-- rising order." What it comes to over histograms stands in `range_histograms`, over queues in `range_queues`.
use Rattle.std.specs.Prelude.{ℕ, ◌+◌, Bool, not, ◌&&◌, cond, List, [], ◌∷◌, ◌++◌, eqb, ltb, length, Float}
use Rattle.base_refusals.specs.declared.Refusal.TheVariants.{MODE, ROOM}
use Rattle.base_refusals.specs.Outcome.{Outcome, went}
use Rattle.base_refusals.specs.Rows.{Row, row, by_rows}
use Rattle.history_histogram.specs.Histogram.{empty}
use Rattle.history_set.specs.Set.{History, counted, listed, Histories, histories_of, set_rows}
use Rattle.range_histograms.specs.Counted.{added_to, counted_span}
use Rattle.range_queues.specs.Listed.{all_held, placed_in, held_span}
pub use Rattle.range_ranks.specs.Span.{Span, found, nothing, not_a_number, said}

-- ---- the question
-- how many of the histories are queues
abbrev pub queues_by : History → ℕ
queues_by (counted counters) = 0
queues_by (listed energies) = 1

unfoldable pub queues_in : List History → ℕ
queues_in [] = 0
queues_in (history ∷ rest) = queues_by history + queues_in rest

abbrev pub some_queue : List History → Bool
some_queue histories = not (eqb (queues_in histories) 0)

-- what the work slice holds afterwards, and what is answered: over histograms it stays
abbrev pub work_after : List Float → List History → List Float
work_after work histories = cond (some_queue histories) (placed_in work (all_held histories)) work

abbrev pub span_over : List History → Span
span_over histories = cond (some_queue histories) (held_span (all_held histories)) (counted_span (added_to empty histories))

-- MODE: "range over queues and histograms mixed". ROOM: "in a range over queues, work slice shorter than the blocks held"
abbrev pub mode_rows : List Float → List History → List Row
mode_rows work histories =
    row MODE (some_queue histories && not (eqb (queues_in histories) (length histories)))
    ∷ row ROOM (some_queue histories && ltb (length work) (length (all_held histories)))
    ∷ []

abbrev pub range_rows : Histories → List Float → List Row
range_rows h work = set_rows h ++ mode_rows work (histories_of h)

-- where the work slice holds `work`
unfoldable pub range_of : Histories → List Float → Outcome (List Float) Span
range_of h work = by_rows (range_rows h work) (went (work_after work (histories_of h)) (span_over (histories_of h)))
