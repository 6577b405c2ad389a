-- What `add_to` comes to where an energy is dropped, and where it is counted: each law settles the tests that pick the case. And a histogram of zeros.
-- Assumes nothing.
use mathlib.Core.Path.{◌≡◌, ap}
use mathlib.Core.Bool.{true, false}
use mathlib.Core.List.{List}
use Prim.Native.Nat.{ℕ, ◌+◌, ◌≤◌}
use borrow.Author.Tests.{eq-eqb, le-leb}
use lib.ListN.{length, get_or, replicate}
use lib.Ieee.{Float}
use Rattle.base_refusals.specs.Outcome.{went, done}
use Rattle.bins.specs.Bin.{bins, bin_of}
use Rattle.bins.specs.Energy.{dropped}
use Rattle.history_histogram.specs.Histogram.{largest_count, empty, one_more, add_to}

module _ (counters : List ℕ) (energy : Float) where
  pub add_dropped : length counters ≡ bins → dropped energy ≡ true → add_to counters energy ≡ went counters done
  unfolding add_to
  add_dropped h d = rw (eq-eqb (length counters) bins h, d)

  pub add_went : length counters ≡ bins → dropped energy ≡ false → get_or counters (bin_of energy) 0 + 1 ≤ largest_count
      → add_to counters energy ≡ went (one_more counters energy) done
  unfolding add_to
  add_went h d f = rw (eq-eqb (length counters) bins h, d, le-leb (get_or counters (bin_of energy) 0 + 1) largest_count f)

-- counters that are all 0 are those of an empty histogram
pub all_zero : (counters : List ℕ) → length counters ≡ bins → replicate (length counters) 0 ≡ empty
unfolding empty
all_zero counters h = ap (λ (k : ℕ). replicate k 0) h
