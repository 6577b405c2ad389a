-- A single history is the set that is this one: added to 0 its sum stays as it is, since it has no minus. Its relative threshold. Assumes nothing.
use Rattle.std.proofs.Common.{◌≡◌, ℕ, ◌+◌, true, List, [], ◌∷◌, refl, sym, ◌∙◌, arith}
use mathlib.Core.Bool.{and-true}
use lib.Ieee.{Float}
use Rattle.base_refusals.specs.Outcome.{says, refusal, answers, said_by}
use Rattle.base_refusals.specs.Rows.{by_rows, number_of}
use Rattle.history_queue.specs.Queue.{suits, held_of}
use Rattle.history_set.specs.declared.set.Entry.{Entry}
use Rattle.history_set.specs.declared.set.Shape.{Shape}
use Rattle.history_set.specs.declared.set.Shape.TheVariants.{Histogram, Queue as Queue-at}
use Rattle.history_set.specs.Set.{counters_at, queue_at, shape_shows, shows, all_show, histories_of, none_below, shape_sound, is_sound, all_sound, set_rows}
use Rattle.history_set.proofs.Entries.{both}
use Rattle.history_set.proofs.Rows.{kept}
use Rattle.gate.specs.declared.blocks.Totals.{Totals}
use Rattle.gate.specs.Totals.{none, with_blocks, energies_from}
use Rattle.gate.specs.Inner.{Steady, sums_of}
use Rattle.gate.specs.Relative.{level_of, level_rows, relative_of}
use Rattle.gate.proofs.Asked.{sums_told, refused_behind, asked_behind}
use Rattle.gate.proofs.Nothing.{to_nothing, nothing_steady, steady_added, bins_steady}
use Rattle.gate.specs.Sums.{totals_of, all_totals, all_of, alone}
use Rattle.gate.proofs.Looking.{same}
use Rattle.gate.proofs.Keeping.{no_minus, others_sound}

-- ---- the sum of a sound history has no minus
energies_steady : (totals : Totals) (l : List Float) → Steady totals.sum → none_below l ≡ true → Steady (energies_from totals l).sum
unfolding energies_from
energies_steady totals [] s fine = s
energies_steady totals (energy ∷ rest) s fine =
    energies_steady (with_blocks totals 1 energy) rest (steady_added totals.sum energy s (no_minus energy rest fine)) (others_sound energy rest fine)

totals_steady : (counters : List ℕ) (energies : List Float) (shape : Shape) → shape_sound energies shape ≡ true → Steady (totals_of (shape_shows counters energies shape)).sum
totals_steady counters energies (Histogram start) h = bins_steady none 0 (counters_at counters start) nothing_steady
totals_steady counters energies (Queue-at start queue) h =
    let held = held_of (queue_at energies start queue) in
    energies_steady none held nothing_steady (both (suits queue queue.maximum) (none_below held) h).1

module _ (entry : Entry) (counters : List ℕ) (energies : List Float) where
  abbrev of_one : Totals
  of_one = totals_of (shows counters energies entry)

  -- its blocks are the set's
  one_total : number_of (set_rows (alone entry counters energies)) ≡ 0 → of_one ≡ all_of (histories_of (alone entry counters energies))
  unfolding all_totals all_show all_sound
  one_total e =
      let sound = sym (and-true (is_sound energies entry)) ∙ (kept (alone entry counters energies) e).stores in
      same {count = of_one.count} {count' = 0 + of_one.count} (omega arith) (sym (to_nothing of_one.sum (totals_steady counters energies entry.shape sound)))

  -- ---- its relative threshold
  pub relative_refused : (n : ℕ) → refusal n ≡ said_by (sums_of (alone entry counters energies)) → refusal n ≡ said_by (relative_of entry counters energies)
  unfolding relative_of
  relative_refused = refused_behind (alone entry counters energies) (answers (level_of of_one)) (level_rows of_one) (relative_of entry counters energies) refl

  pub relative_asked : (all : Totals) → says all ≡ said_by (sums_of (alone entry counters energies))
      → said_by (by_rows (level_rows all) (answers (level_of all))) ≡ said_by (relative_of entry counters energies)
  unfolding relative_of
  relative_asked all p =
      let told = sums_told (alone entry counters energies) all p in
      rw (told.1 ∙ sym (one_total told.0))
      (asked_behind (alone entry counters energies) (answers (level_of of_one)) (level_rows of_one) (relative_of entry counters energies) refl told.0)
