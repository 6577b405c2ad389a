-- The counters of a histogram of a set are a slice of the lent counters; the energies that a queue of a set holds are two slices of the lent energies, one after the
-- other. Assumes nothing.
use mathlib.Core.Path.{◌≡◌, ap, ◌∙◌}
use mathlib.Core.Bool.{Bool, true, not, ◌&&◌, and-true, and_assoc}
use mathlib.Core.List.{List}
use Prim.Native.Nat.{ℕ, ◌+◌, ◌-◌, ◌≤◌, ◌<◌}
use native.Mathlib.Omega.{arith}
use lib.ListN.{length, get_or, take, drop}
use lib.Ieee.{Float}
use Rattle.bins.specs.Bin.{bins}
use Rattle.bins.specs.Energy.{dropped}
use Rattle.history_queue.specs.declared.Queue.{Queue}
pub use Rattle.history_queue.specs.Queue.{slice}
use Rattle.history_queue.specs.Queue.{suits, held_of, parts_of, in_parts}
pub use Rattle.history_queue.proofs.Standing.{slice_length}
use Rattle.history_queue.proofs.Standing.{inside, held_in_parts}
use Rattle.std.proofs.lemmas.List.{drop_more}
use Rattle.std.proofs.Math.ListN.{drop_of_length-le}
use Rattle.history_set.specs.Set.{counters_at, queue_at, none_below}

pub counters_slice : (counters : List ℕ) (start : ℕ) → counters_at counters start ≡ slice start (start + bins) counters
counters_slice counters start = ap (λ (n : ℕ). take n (drop start counters)) {x = bins} {y = start + bins - start} (omega arith)

pub held_slices : (energies : List Float) (start : ℕ) (queue : Queue) → start + queue.maximum ≤ length energies → suits queue queue.maximum ≡ true
    → held_of (queue_at energies start queue) ≡ in_parts (parts_of queue start (length energies)) energies
held_slices energies start queue within fits = held_in_parts queue start energies (inside queue start (length energies) within ∙ fits)

-- ---- none of the energies that are left is below boundary 0
module _ (l : List Float) (i : ℕ) (fine : Bool) where
  pub fine_turn : (d : Float) → i < length l → (fine && not (dropped (get_or l i d))) && none_below (drop (i + 1) l) ≡ fine && none_below (drop i l)
  unfolding none_below
  fine_turn d h = rw (and_assoc, drop_more l i d h)

  pub fine_end : length l ≤ i → fine && none_below (drop i l) ≡ fine
  unfolding none_below
  fine_end h = rw (drop_of_length-le l h) (and-true fine)
