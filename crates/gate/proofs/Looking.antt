-- Energies looked at and added in one pass: what a queue holds is two parts, one after the other, and so is what is seen of them. Assumes nothing.
use Rattle.std.proofs.Common.{◌≡◌, ℕ, ◌+◌, ◌≤◌, true, false, Option, None, Some, MatchOption, List, [], ◌∷◌, ◌++◌, length, take, drop, sym, refl, ◌∙◌, arith}
use lib.Ieee.{Float, binary64, add}
use Rattle.history_queue.specs.declared.Queue.{Queue}
use Rattle.history_queue.specs.Queue.{suits, held_of, parts_of, in_parts}
use Rattle.history_set.specs.declared.set.Shape.TheVariants.{Queue as Queue-at}
use Rattle.history_set.specs.Set.{queue_at, none_below, shape_sound}
use Rattle.history_queue.proofs.Ring.{suited}
use Rattle.history_queue.proofs.Held.{held_count}
use Rattle.history_set.proofs.Slices.{held_slices}
use Rattle.history_set.proofs.Entries.{both, none_below_append}
use Rattle.gate.specs.declared.blocks.Totals.{Totals}
use Rattle.gate.specs.Totals.{most_blocks, none, with_blocks, energies_from}
use Rattle.gate.specs.Inner.{sum_onto}
use Rattle.std.proofs.lemmas.List.Sums.{fold-append}

-- totals are equal where their counts and sums are
pub same : {count count' : ℕ} {sum sum' : Float} → count ≡ count' → sum ≡ sum'
    → ◌≡◌ {A = Totals} (record { count = count; sum = sum }) (record { count = count'; sum = sum' })
same p q = cc

-- energies added up: as many blocks as energies, and their sum
totals_are : (totals : Totals) (l : List Float) → energies_from totals l ≡ record { count = totals.count + length l; sum = sum_onto totals.sum l }
unfolding energies_from
totals_are totals [] = same (omega arith) refl
totals_are totals (energy ∷ l) = totals_are (with_blocks totals 1 energy) l ∙ same (omega arith) refl

-- ---- the energies that a queue holds
module _ (energies : List Float) (start : ℕ) (queue : Queue) where
  abbrev held : List Float
  held = held_of (queue_at energies start queue)

  -- they are two parts, where the store is its own
  module _ (inside : start + queue.maximum ≤ length energies) (fits : suits queue queue.maximum ≡ true) (older newer : List Float)
      (e : older ++ newer ≡ in_parts (parts_of queue start (length energies)) energies) where
    two_parts : held ≡ older ++ newer
    two_parts = held_slices energies start queue inside fits ∙ sym e

    pub older_unsound : none_below older ≡ false → shape_sound energies (Queue-at start queue) ≡ false
    older_unsound h = rw (fits, two_parts, none_below_append older newer, h)

    -- what the newer ones add to the sum of the older ones
    pub both_seen : none_below older ≡ true → (sum : Float) → sum ≡ sum_onto none.sum older → (all : Option Float)
        → MatchOption all (none_below newer ≡ false) (λ a. (none_below newer ≡ true) × (a ≡ sum_onto sum newer))
        → MatchOption all (shape_sound energies (Queue-at start queue) ≡ false)
        (λ a. (shape_sound energies (Queue-at start queue) ≡ true) × (a ≡ sum_onto none.sum held))
    both_seen h sum p None q = rw (fits, two_parts, none_below_append older newer, h) q
    both_seen h sum p (Some a) q = (
      rw (fits, two_parts, none_below_append older newer, h) q.0,
      rw (two_parts, fold-append (add binary64) none.sum older newer, sym p) q.1,
    )

  -- a sound queue has as many blocks as it holds energies
  pub queue_totals : (sum : Float) → shape_sound energies (Queue-at start queue) ≡ true → sum ≡ sum_onto none.sum held
      → (◌≡◌ {A = Totals} (record { count = queue.held; sum = sum }) (energies_from none held)) × (queue.held ≤ most_blocks)
  queue_totals sum s h =
      let f = suited queue queue.maximum (both (suits queue queue.maximum) (none_below held) s).0 in
      let many = held_count (take queue.maximum (drop start energies)) queue.maximum queue.head queue.held in
      (same {count' = 0 + length held} (omega (arith, many)) h ∙ sym (totals_are none held), omega (arith, f.full, f.most))
