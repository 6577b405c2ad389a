-- Counts of blocks over the bins of a set: how far they get. Assumes nothing.
use mathlib.Core.List.{List}
use Prim.Native.Nat.{ℕ, ◌*◌, ◌^◌, ◌≤◌}
use native.Mathlib.Omega.{arith}
use lib.Dec.{T, le→leb}
use lib.IntN.{pos}
use lib.ListN.{length, get_or, take}
use Rattle.std.proofs.Common.{◌≡◌, map, ap}
use Rattle.std.proofs.lemmas.List.{map-id}
use lib.Ieee.{binary64, in_float}
use Rattle.range_one.proofs.Counting.{blocks_up_to, blocks_all}
use Rattle.range_histograms.specs.Counted.{most_in_bin, AtMost, blocks_in}
pub use Rattle.range_one.proofs.Counting.{blocks_more, blocks_none, blocks_part, count_is}

pub blocks_most : (l : List ℕ) → AtMost most_in_bin l → (n : ℕ) → blocks_in (take n l) ≤ n * most_in_bin
blocks_most l b n = blocks_up_to most_in_bin l b n

pub blocks_all_most : (l : List ℕ) → AtMost most_in_bin l → blocks_in l ≤ length l * most_in_bin
blocks_all_most l few = blocks_all most_in_bin l few

-- what a bin of 16 histograms has is a float exactly
pub few_in_float : (blocks : ℕ) → blocks ≤ most_in_bin → T (in_float binary64 (pos blocks))
unfolding in_float
few_in_float blocks h = le→leb blocks (2 ^ 53) (omega (arith, h))

-- counters of 64 bits stand for themselves
pub as_they_are : (l : List ℕ) → map (λ (count : ℕ). count) l ≡ l
as_they_are l = map-id l

pub most_at : (l : List ℕ) → AtMost most_in_bin (map (λ (count : ℕ). count) l) → AtMost most_in_bin l
most_at l few bin = omega (arith, few bin, ap (λ (k : List ℕ). get_or k bin 0) (map-id l))
