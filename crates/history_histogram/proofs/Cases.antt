-- What `merge_into` comes to where every sum fits: the law settles the tests that pick the case. Assumes nothing.
use mathlib.Core.Path.{◌≡◌}
use mathlib.Core.Bool.{true}
use mathlib.Core.List.{List}
use Prim.Native.Nat.{ℕ}
use borrow.Author.Tests.{eq-eqb}
use lib.ListN.{length}
use Rattle.base_refusals.specs.Outcome.{went, done}
use Rattle.bins.specs.Bin.{bins}
use Rattle.history_histogram.specs.Histogram.{sums}
use Rattle.history_histogram.specs.Merge.{room, merge_into}

module _ (into from : List ℕ) where
  pub merge_went : length into ≡ bins → length from ≡ bins → room into from ≡ true → merge_into into from ≡ went (sums into from) done
  unfolding merge_into
  merge_went h g f = rw (eq-eqb (length into) bins h, eq-eqb (length from) bins g, f)
