-- What energies add to running totals at a gate: what a queue holds is two parts, one after the other; and where no energy has a minus,
-- adding 0 for one below the threshold is passing it over. Assumes nothing.
use Rattle.std.proofs.Common.{◌≡◌, ℕ, suc, ◌+◌, ◌≤◌, Bool, true, false, cond, not, T, List, [], ◌∷◌, length, sym, refl, ap, ◌∙◌, subst, arith}
use borrow.Author.Tests.{not-true}
use lib.Ieee.{Float, binary64, add}
use Rattle.bins_tables.specs.Tables.{boundary_at}
use Rattle.bins_tables.proofs.Rules.{boundary_positive}
use Rattle.bins.specs.Energy.{dropped}
use Rattle.history_queue.specs.declared.Queue.{Queue}
use Rattle.history_queue.specs.Queue.{suits, held_of, parts_of, in_parts}
use Rattle.history_queue.proofs.Ring.{suited}
use Rattle.history_queue.proofs.Held.{held_count}
use Rattle.history_set.specs.Set.{queue_at, none_below}
use Rattle.history_set.proofs.Entries.{both}
use Rattle.history_set.proofs.Slices.{held_slices}
use Rattle.gate.specs.declared.blocks.Totals.{Totals}
use Rattle.gate.specs.Totals.{most_blocks, on_top_of, none, with_blocks}
use Rattle.gate.specs.Inner.{unsigned, Steady, energy_kept, blocks_kept, counted_from, summed_from, added_from}
use Rattle.gate.specs.Start.{counts}
use Rattle.gate.proofs.Nothing.{nothing_added, steady_added, not_below_unsigned}
use Rattle.gate.proofs.Looking.{same}
use Rattle.gate.specs.Kept.{kept_from}

-- what is counted and what is summed, both at once
pub together : (threshold : Float) (count : ℕ) (sum : Float) (l : List Float)
    → added_from threshold (record { count = count; sum = sum }) l ≡ record { count = counted_from threshold count l; sum = summed_from threshold sum l }
together threshold count sum [] = refl
together threshold count sum (energy ∷ rest) = together threshold (count + blocks_kept threshold energy) (add binary64 sum (energy_kept threshold energy)) rest

-- a block at most
pub one_more_lem : (threshold energy : Float) (blocks : ℕ) → blocks ≡ blocks_kept threshold energy → blocks ≤ 1
one_more_lem threshold energy blocks e = subst (λ (n : ℕ). n ≤ 1) (sym e) (go (counts threshold energy))
  where
    go : (b : Bool) → cond b 1 0 ≤ 1
    go true = omega arith
    go false = omega arith

-- ---- a sum without a minus stays as it is where 0 is added
module _ (energy : Float) (rest : List Float) (sound : none_below (energy ∷ rest) ≡ true) where
  seen : (not (dropped energy) ≡ true) × (none_below rest ≡ true)
  unfolding none_below
  seen = both (not (dropped energy)) (none_below rest) sound

  pub no_minus : T (unsigned energy)
  no_minus = not_below_unsigned (boundary_at 0) energy (boundary_positive 0 (omega arith)) (not-true (dropped energy) seen.0)

  pub others_sound : none_below rest ≡ true
  others_sound = seen.1

added_kept : (threshold : Float) (totals : Totals) (l : List Float) → Steady totals.sum → none_below l ≡ true
    → added_from threshold totals l ≡ kept_from threshold totals l
unfolding kept_from
added_kept threshold totals [] s sound = refl
added_kept threshold totals (energy ∷ rest) s sound =
    go (counts threshold energy)
    (added_kept threshold (with_blocks totals 1 energy) rest (steady_added totals.sum energy s (no_minus energy rest sound)) (others_sound energy rest sound))
    (added_kept threshold totals rest s (others_sound energy rest sound))
  where
    go : (b : Bool) → added_from threshold (with_blocks totals 1 energy) rest ≡ kept_from threshold (with_blocks totals 1 energy) rest
        → added_from threshold totals rest ≡ kept_from threshold totals rest
        → added_from threshold (with_blocks totals (cond b 1 0) (cond b energy none.sum)) rest ≡ kept_from threshold (cond b (with_blocks totals 1 energy) totals) rest
    go true kept passed = kept
    go false kept passed =
        ap (λ (t : Totals). added_from threshold t rest) (same {count' = totals.count} (omega arith) (nothing_added totals.sum s)) ∙ passed

kept_steady : (threshold : Float) (totals : Totals) (l : List Float) → Steady totals.sum → none_below l ≡ true → Steady (kept_from threshold totals l).sum
unfolding kept_from
kept_steady threshold totals [] s sound = s
kept_steady threshold totals (energy ∷ rest) s sound =
    go (counts threshold energy)
    (kept_steady threshold (with_blocks totals 1 energy) rest (steady_added totals.sum energy s (no_minus energy rest sound)) (others_sound energy rest sound))
    (kept_steady threshold totals rest s (others_sound energy rest sound))
  where
    go : (b : Bool) → Steady (kept_from threshold (with_blocks totals 1 energy) rest).sum → Steady (kept_from threshold totals rest).sum
        → Steady (kept_from threshold (cond b (with_blocks totals 1 energy) totals) rest).sum
    go true kept passed = kept
    go false kept passed = passed

-- no more blocks than energies
kept_few : (threshold : Float) (totals : Totals) (l : List Float) → (kept_from threshold totals l).count ≤ totals.count + length l
unfolding kept_from
kept_few threshold totals [] = omega arith
kept_few threshold totals (energy ∷ rest) = go (counts threshold energy) (kept_few threshold (with_blocks totals 1 energy) rest) (kept_few threshold totals rest)
  where
    go : (b : Bool) → (kept_from threshold (with_blocks totals 1 energy) rest).count ≤ totals.count + 1 + length rest
        → (kept_from threshold totals rest).count ≤ totals.count + length rest
        → (kept_from threshold (cond b (with_blocks totals 1 energy) totals) rest).count ≤ totals.count + suc (length rest)
    go true kept passed = omega (arith, kept)
    go false kept passed = omega (arith, passed)

-- ---- a queue
module _ (threshold sum : Float) (energies : List Float) (start : ℕ) (queue : Queue) where
  abbrev held : List Float
  held = held_of (queue_at energies start queue)

  -- what the queue of a sound store keeps
  pub queue_keeps : start + queue.maximum ≤ length energies → suits queue queue.maximum ≡ true → none_below held ≡ true → Steady sum
      → (kept : Totals) → kept ≡ added_from threshold (on_top_of sum) (in_parts (parts_of queue start (length energies)) energies)
      → (kept ≡ kept_from threshold (on_top_of sum) held) × (kept.count ≤ most_blocks) × Steady kept.sum
  queue_keeps within fits sound steady kept e =
      let f = suited queue queue.maximum fits in
      let is : kept ≡ kept_from threshold (on_top_of sum) held
      = e ∙ ap (added_from threshold (on_top_of sum)) (sym (held_slices energies start queue within fits)) ∙ added_kept threshold (on_top_of sum) held steady sound in (
        is,
        omega (
          arith,
          ap (λ (t : Totals). t.count) is,
          kept_few threshold (on_top_of sum) held,
          held_count (queue_at energies start queue).store queue.maximum queue.head queue.held,
          f.full,
          f.most,
        ),
        subst (λ (t : Totals). Steady t.sum) (sym is) (kept_steady threshold (on_top_of sum) held steady sound),
      )
