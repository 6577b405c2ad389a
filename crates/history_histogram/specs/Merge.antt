-- One histogram merged into another (01, 'Merge'): what it comes to.
use Rattle.std.specs.Prelude.{ℕ, ◌+◌, Bool, true, not, ◌&&◌, ◌||◌, List, [], ◌∷◌, leb}
use Rattle.base_refusals.specs.declared.Refusal.TheVariants.{STORE, FULL}
use Rattle.base_refusals.specs.Outcome.{Outcome, went, NoValues, done}
use Rattle.base_refusals.specs.Rows.{Row, row, by_rows}
use Rattle.history_histogram.specs.Histogram.{largest_count, is_histogram, sums}

-- no sum passes the largest count
abbrev pub room : List ℕ → List ℕ → Bool
room [] from = true
room (x ∷ into) [] = true
room (x ∷ into) (y ∷ from) = leb (x + y) largest_count && room into from

-- STORE: "not 1,000 counters". FULL: "in add or merge, a counter would pass 4,294,967,295"
abbrev pub merge_rows : List ℕ → List ℕ → List Row
merge_rows into from =
    row STORE (not (is_histogram into) || not (is_histogram from))
    ∷ row FULL (not (room into from))
    ∷ []

unfoldable pub merge_into : List ℕ → List ℕ → Outcome (List ℕ) NoValues
merge_into into from = by_rows (merge_rows into from) (went (sums into from) done)
