-- Whether every sum fits, in a loop: each turn goes on from one counter to the next, so that what is left to look at is known by recursion on the counters.
-- Assumes nothing.
use mathlib.Core.Path.{◌≡◌, refl, sym}
use mathlib.Core.Bool.{Bool, true, false, ◌&&◌, and-true, and_assoc, and-eq-true_iff}
use mathlib.Core.List.{List, [], ◌∷◌}
use Prim.Native.Nat.{ℕ, zero, suc, ◌+◌, ◌-◌, ◌≤◌, ◌<◌}
use native.Mathlib.Nat.{le_of_suc-le-suc, not-suc-le-zero}
use native.Mathlib.Numerals.{add-one}
use native.Mathlib.Omega.{arith}
use borrow.Author.Tests.{le-leb, lt-leb, leb-true, leb-false}
use lib.Dec.{leb}
use lib.ListN.{length, get_or, drop, drop_of_length-le}
use lib.Seq.{drop-cons}
use Rattle.history_histogram.specs.Histogram.{largest_count}
use Rattle.history_histogram.specs.Merge.{room}

-- "y is at most what x leaves" is "x + y is at most the largest count"
fits_one : (x y : ℕ) → x ≤ largest_count → leb y (largest_count - x) ≡ leb (x + y) largest_count
fits_one x y h = go (leb y (largest_count - x)) refl
  where
    go : (b : Bool) → leb y (largest_count - x) ≡ b → b ≡ leb (x + y) largest_count
    go true e = sym (le-leb (x + y) largest_count (omega (arith, leb-true y (largest_count - x) e)))
    go false e = sym (lt-leb (x + y) largest_count (omega (arith, leb-false y (largest_count - x) e)))

module _ (into from : List ℕ) where
  -- what has been found before a bin, with what the bins from there on give
  abbrev pub looked_to : Bool → ℕ → Bool
  looked_to fits bin = fits && room (drop bin into) (drop bin from)

  pub look_turn : (fits : Bool) (bin : ℕ) → bin < length into → bin < length from → get_or into bin 0 ≤ largest_count
      → looked_to (fits && leb (get_or from bin 0) (largest_count - get_or into bin 0)) (bin + 1) ≡ looked_to fits bin
  look_turn fits bin h g l =
      rw (
        fits_one (get_or into bin 0) (get_or from bin 0) l,
        and_assoc,
        add-one bin,
        drop-cons into bin 0 h,
        drop-cons from bin 0 g,
      )

  pub look_end : (fits : Bool) (bin : ℕ) → length into ≤ bin → looked_to fits bin ≡ fits
  look_end fits bin h = rw (drop_of_length-le into {i = bin} h) (and-true fits)

-- where there is room, each sum fits
pub room_at : (into from : List ℕ) (bin : ℕ) → bin < length into → bin < length from → room into from ≡ true
    → get_or into bin 0 + get_or from bin 0 ≤ largest_count
room_at [] from bin h g r = absurd (not-suc-le-zero h)
room_at (x ∷ into) [] bin h g r = absurd (not-suc-le-zero g)
room_at (x ∷ into) (y ∷ from) zero h g r = leb-true (x + y) largest_count ((and-eq-true_iff (leb (x + y) largest_count) (room into from)).0 r).0
room_at (x ∷ into) (y ∷ from) (suc bin) h g r =
    room_at into from bin (le_of_suc-le-suc h) (le_of_suc-le-suc g) ((and-eq-true_iff (leb (x + y) largest_count) (room into from)).0 r).1
