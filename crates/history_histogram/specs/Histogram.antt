-- The histogram, 1,000 counters (01, step 7): what adding an energy comes to, and clearing one; and the sums of two histograms.
use Rattle.std.specs.Prelude.{ℕ, ◌+◌, Bool, not, ◌&&◌, List, [], ◌∷◌, eqb, leb, length, get_or, set, replicate, Float}
use Rattle.base_refusals.specs.declared.Refusal.TheVariants.{STORE, FULL}
use Rattle.base_refusals.specs.Outcome.{Outcome, went, NoValues, done}
use Rattle.base_refusals.specs.Rows.{Row, row, by_rows}
use Rattle.bins.specs.Bin.{bins, bin_of}
use Rattle.bins.specs.Energy.{dropped, received}

-- the largest count of a bin
abbrev pub largest_count : ℕ
largest_count = 4294967295

abbrev pub is_histogram : List ℕ → Bool
is_histogram counters = eqb (length counters) bins

-- a histogram with no block. It is shut, so that no proof writes its thousand counters out
unfoldable pub empty : List ℕ
empty = replicate bins 0

-- one block more in the bin of the energy
abbrev pub one_more : List ℕ → Float → List ℕ
one_more counters energy = set counters (bin_of energy) (get_or counters (bin_of energy) 0 + 1)

-- whether the bin of the energy takes one block more
abbrev pub takes_one : List ℕ → Float → Bool
takes_one counters energy = leb (get_or counters (bin_of energy) 0 + 1) largest_count

-- STORE: "not 1,000 counters". FULL: "in add or merge, a counter would pass 4,294,967,295"
abbrev pub add_rows : List ℕ → Float → List Row
add_rows counters energy =
    row STORE (not (is_histogram counters))
    ∷ row FULL (not (dropped energy) && not (takes_one counters energy))
    ∷ []

unfoldable pub add_to : List ℕ → Float → Outcome (List ℕ) NoValues
add_to counters energy = by_rows (add_rows counters energy) (went (received counters energy (one_more counters energy)) done)

-- counters added bin by bin
abbrev pub sums : List ℕ → List ℕ → List ℕ
sums [] from = []
sums (x ∷ into) [] = x ∷ into
sums (x ∷ into) (y ∷ from) = (x + y) ∷ sums into from

abbrev pub reset_rows : List ℕ → List Row
reset_rows counters = row STORE (not (is_histogram counters)) ∷ []

unfoldable pub cleared : List ℕ → Outcome (List ℕ) NoValues
cleared counters = by_rows (reset_rows counters) (went empty done)
