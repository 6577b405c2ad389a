-- The gate question over queues is the measurement of BS.1770, with blocks at a gate kept: the same blocks, the same count and the same sum.
-- The running totals of 01 are the length and the sum of the blocks they pass, and the gates let the same blocks through. Assumes nothing.
use mathlib.Core.Path.{◌≡◌, refl, sym, ap, ◌∙◌}
use mathlib.Core.Bool.{Bool, true, false, not, ◌&&◌, ◌||◌, cond}
use mathlib.Core.List.{List, [], ◌∷◌, ◌++◌}
use Prim.Native.Nat.{◌+◌}
use native.Mathlib.Omega.{arith}
use lib.Dec.{eqb}
use lib.ListN.{length, length-append}
use lib.Ieee.{Float, binary64, add, lt, is_nan, round}
use Rattle.base_refusals.specs.declared.Refusal.TheVariants.{NONE, NAN}
use Rattle.base_refusals.specs.Outcome.{answers, refused}
use Rattle.base_refusals.specs.Rows.{by_rows}
use Rattle.bins.specs.Energy.{dropped}
use Rattle.history_queue.specs.Queue.{over, started, held_of}
use Rattle.history_queue.specs.Adding.{fed_to, taken}
use Rattle.history_set.specs.Set.{History, listed}
use Rattle.history_queue.proofs.Fed.{held_of_new}
use Rattle.gate.specs.declared.blocks.Totals.{Totals}
use Rattle.gate.specs.Totals.{none, with_blocks, energies_from}
use Rattle.gate.specs.Sums.{totals_of, all_totals, all_of}
use Rattle.gate.proofs.Looking.{same}
use Rattle.gate.specs.Relative.{tenth, threshold_of, loudness, energy as energy_case, lowest, level_of, level_rows}
use Rattle.gate.specs.Kept.{kept_from}
use Rattle.gate.specs.Gate.{all_gated, left_of, gate_over}
use Rattle.acceptance_meaning.specs.Levels.{absolute_gate, no_energy, added, mean, ten_lu_below}
use Rattle.acceptance_meaning.specs.Bs1770.{
  equals_kept,
  through,
  each_through,
  histories_added,
  in_one_run,
  by_history,
  together,
  relative_gate,
  unless_none,
  measured,
  gate_level,
  measured_gate,
  Feed,
  material_of,
  shown_by,
}

-- ---- what queues hold of material: the blocks that are not dropped, which are those that the absolute gate lets through
unfoldable pub held_in : List (List Float) → List History
held_in [] = []
held_in (blocks ∷ rest) = listed (through equals_kept absolute_gate blocks) ∷ held_in rest

through_absolute : (blocks : List Float) → through equals_kept absolute_gate blocks ≡ taken blocks
unfolding through taken
through_absolute [] = refl
through_absolute (energy ∷ rest) = go (dropped energy) (through_absolute rest)
  where
    go : (b : Bool) → through equals_kept absolute_gate rest ≡ taken rest
        → cond (not b) (energy ∷ through equals_kept absolute_gate rest) (through equals_kept absolute_gate rest) ≡ cond b (taken rest) (energy ∷ taken rest)
    go true e = e
    go false e = ap {B = List Float} (λ (l : List Float). energy ∷ l) e

pub shown_held : (feeds : List Feed) → shown_by feeds ≡ held_in (material_of feeds)
unfolding shown_by held_in material_of
shown_held [] = refl
shown_held (f ∷ rest) =
    ap (λ (l : List History). listed (held_of (fed_to (over (started f.maximum) f.store) f.blocks)) ∷ l) (shown_held rest)
    ∙ ap {B = List History} (λ (l : List Float). listed l ∷ held_in (material_of rest))
    (held_of_new f.blocks f.maximum f.store f.least f.most f.whole f.room ∙ sym (through_absolute f.blocks))

-- ---- running totals over energies are their number and their sum
-- running totals after these blocks
abbrev pub after : Totals → List Float → Totals
after totals blocks = record { count = totals.count + length blocks; sum = added totals.sum blocks }

pub all_energies : (totals : Totals) (energies : List Float) → energies_from totals energies ≡ after totals energies
unfolding energies_from added
all_energies totals [] = same (omega arith) refl
all_energies totals (energy ∷ rest) = all_energies (with_blocks totals 1 energy) rest ∙ same (omega arith) refl

kept_energies : (threshold : Float) (totals : Totals) (energies : List Float)
    → kept_from threshold totals energies ≡ after totals (through equals_kept threshold energies)
unfolding kept_from added through
kept_energies threshold totals [] = same (omega arith) refl
kept_energies threshold totals (energy ∷ rest) =
    go (not (lt energy threshold)) (kept_energies threshold (with_blocks totals 1 energy) rest) (kept_energies threshold totals rest)
  where
    go : (b : Bool)
        → kept_from threshold (with_blocks totals 1 energy) rest ≡ after (with_blocks totals 1 energy) (through equals_kept threshold rest)
        → kept_from threshold totals rest ≡ after totals (through equals_kept threshold rest)
        → kept_from threshold (cond b (with_blocks totals 1 energy) totals) rest
        ≡ after totals (cond b (energy ∷ through equals_kept threshold rest) (through equals_kept threshold rest))
    go true kept passed = kept ∙ same (omega arith) refl
    go false kept passed = passed

-- ---- the first pass: every block above the absolute gate
first_pass : (totals : Totals) (material : List (List Float)) →
    let blocks = each_through equals_kept absolute_gate material in
    all_totals totals (held_in material) ≡ record { count = totals.count + length (in_one_run blocks); sum = histories_added totals.sum blocks }
unfolding all_totals held_in each_through in_one_run histories_added
first_pass totals [] = same (omega arith) refl
first_pass totals (blocks ∷ rest) =
    let here = through equals_kept absolute_gate blocks in
    let others = each_through equals_kept absolute_gate rest in
    ap (λ (t : Totals). all_totals (with_blocks totals t.count t.sum) (held_in rest)) (all_energies none here)
    ∙ first_pass (with_blocks totals (0 + length here) (added no_energy here)) rest
    ∙ same (omega (arith, length-append here (in_one_run others))) refl

-- ---- the second pass: of those, every block above the relative gate
added_append : (sum : Float) (a b : List Float) → added sum (a ++ b) ≡ added (added sum a) b
unfolding added
added_append sum [] b = refl
added_append sum (x ∷ a) b = added_append (add binary64 sum x) a b

second_pass : (gate : Float) (totals : Totals) (material : List (List Float)) →
    let left = in_one_run (each_through equals_kept gate (each_through equals_kept absolute_gate material)) in
    all_gated gate totals (held_in material) ≡ after totals left
unfolding all_gated held_in each_through in_one_run added
second_pass gate totals [] = same (omega arith) refl
second_pass gate totals (blocks ∷ rest) =
    let here = through equals_kept gate (through equals_kept absolute_gate blocks) in
    let others = in_one_run (each_through equals_kept gate (each_through equals_kept absolute_gate rest)) in
    ap (λ (t : Totals). all_gated gate t (held_in rest)) (kept_energies gate totals (through equals_kept absolute_gate blocks))
    ∙ second_pass gate (after totals here) rest
    ∙ same (omega (arith, length-append here others)) (sym (added_append totals.sum here others))

-- ---- the frame: NONE, NAN, NONE
pub framed : (all left : Totals) → gate_over all left ≡ unless_none all left
framed all left = go (eqb all.count 0) (is_nan all.sum) (eqb left.count 0)
  where
    go : (z n l : Bool)
        → cond (z || (not n && l)) (refused NONE) (cond n (refused NAN) (answers left))
        ≡ cond z (refused NONE) (cond n (refused NAN) (cond l (refused NONE) (answers left)))
    go true n l = refl
    go false true l = refl
    go false false true = refl
    go false false false = refl

gate_of_held : (material : List (List Float)) → gate_over (all_of (held_in material)) (left_of (held_in material)) ≡ measured equals_kept material
unfolding measured tenth
gate_of_held material =
    let blocks = each_through equals_kept absolute_gate material in
    let first : all_of (held_in material) ≡ by_history blocks = first_pass none material ∙ same (omega arith) refl in
    let second : all_gated (relative_gate blocks) none (held_in material) ≡ together (each_through equals_kept (relative_gate blocks) blocks)
    = second_pass (relative_gate blocks) none material ∙ same (omega arith) refl in
    ap (λ (t : Totals). gate_over t (all_gated (threshold_of t) none (held_in material))) first
    ∙ ap (gate_over (by_history blocks)) second
    ∙ framed (by_history blocks) (together (each_through equals_kept (relative_gate blocks) blocks))

-- the gate question over queues to which material was added
pub gate_is_bs1770 : (feeds : List Feed) → gate_over (all_of (shown_by feeds)) (left_of (shown_by feeds)) ≡ measured equals_kept (material_of feeds)
gate_is_bs1770 feeds = ap (λ (l : List History). gate_over (all_of l) (left_of l)) (shown_held feeds) ∙ gate_of_held (material_of feeds)

-- ---- the relative threshold of one queue
-- the level of a queue's blocks, by its rows
abbrev alone : List Float → Totals
alone blocks = record { count = length blocks; sum = added no_energy blocks }

levelled : (blocks : List Float) → by_rows (level_rows (alone blocks)) (answers (level_of (alone blocks))) ≡ gate_level blocks
unfolding tenth lowest
levelled blocks = go (eqb (length blocks) 0) (is_nan (added no_energy blocks))
  where
    level : Float
    level = ten_lu_below (mean (length blocks) (added no_energy blocks))

    go : (z n : Bool)
        → cond (not z && n) (refused NAN) (answers (cond z (loudness (round binary64 true 70 1)) (energy_case level)))
        ≡ cond z (answers (loudness (round binary64 true 70 1))) (cond n (refused NAN) (answers (energy_case level)))
    go true n = refl
    go false true = refl
    go false false = refl

pub threshold_is_gate : (feed : Feed) (history : History) → history ∷ [] ≡ shown_by (feed ∷ [])
    → by_rows (level_rows (totals_of history)) (answers (level_of (totals_of history))) ≡ measured_gate equals_kept feed.blocks
unfolding measured_gate shown_by material_of held_in
threshold_is_gate feed history shown =
    let blocks = through equals_kept absolute_gate feed.blocks in
    let is : history ∷ [] ≡ listed blocks ∷ [] = shown ∙ shown_held (feed ∷ []) in
    let totals : totals_of history ≡ alone blocks = ap first_total is ∙ all_energies none blocks ∙ same (omega arith) refl in
    ap (λ (t : Totals). by_rows (level_rows t) (answers (level_of t))) totals ∙ levelled blocks
  where
    first_total : List History → Totals
    first_total [] = none
    first_total (h ∷ rest) = totals_of h
