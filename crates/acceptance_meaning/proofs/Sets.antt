-- The gate question over any set is the measurement over what its histories hold: a histogram's bins from the gate's start bin on are those whose energy the gate lets
-- through, and a queue's energies are asked one by one. Assumes nothing.
use mathlib.Core.Path.{◌≡◌, refl, sym, ap, ◌∙◌}
use mathlib.Core.Bool.{Bool, true, false, not, cond}
use mathlib.Core.List.{List, [], ◌∷◌}
use Prim.Native.Nat.{ℕ, zero, suc, ◌+◌, ◌≤◌, ◌<◌}
use native.Mathlib.Omega.{arith}
use borrow.Author.Tests.{le-leb, lt-leb, leb-true, leb-false}
use lib.Dec.{leb}
use lib.ListN.{length, drop, length-take, length-drop}
use lib.IntN.{pos}
use lib.Ieee.{Float, binary64, mul, of_int}
use Rattle.base_refusals.specs.Outcome.{answers}
use Rattle.base_refusals.specs.Rows.{number_of}
use Rattle.base_refusals.proofs.Behind.{goes_on}
use Rattle.bins_tables.specs.Tables.{energy_at}
use Rattle.bins.specs.Bin.{bins}
use Rattle.history_set.specs.declared.set.Entry.{Entry}
use Rattle.history_set.specs.declared.set.Shape.{Shape}
use Rattle.history_set.specs.declared.set.Shape.TheVariants.{Histogram, Queue as Queue-at}
use Rattle.history_set.specs.Set.{History, counted, listed, Histories, chosen, shape_shows, all_show, histories_of, is_outside, any_outside, set_rows}
use Rattle.history_set.proofs.Rows.{kept}
use Rattle.history_set.proofs.Entries.{either_not, counters_inside_lem}
use Rattle.gate.specs.declared.blocks.Totals.{Totals}
use Rattle.gate.specs.Totals.{none, with_blocks, bins_from, energies_from}
use Rattle.gate.specs.Start.{start_bin}
use Rattle.gate.specs.Sums.{totals_of, all_totals, all_of}
use Rattle.gate.specs.Relative.{tenth, threshold_of}
use Rattle.gate.specs.Kept.{kept_from}
use Rattle.gate.specs.Gate.{gated_of, all_gated, left_of, gating_rows, gate_of}
use Rattle.acceptance_meaning.specs.Bs1770.{
  equals_kept,
  more,
  no_blocks,
  bins_through,
  energies_through,
  history_through,
  all_through,
  all_blocks,
  unless_none,
  measured_set,
}
use Rattle.acceptance_meaning.proofs.Starting.{from_start, below_start}
use Rattle.acceptance_meaning.proofs.Meaning.{framed}

-- ---- all blocks
pub every_bin : (totals : Totals) (bin : ℕ) (l : List ℕ) → bins_through (λ energy. true) totals bin l ≡ bins_from totals bin l
unfolding bins_through bins_from
every_bin totals bin [] = refl
every_bin totals bin (count ∷ l) = every_bin (with_blocks totals count (mul binary64 (of_int binary64 (pos count)) (energy_at bin))) (suc bin) l

every_energy : (totals : Totals) (l : List Float) → energies_through (λ energy. true) totals l ≡ energies_from totals l
unfolding energies_through energies_from
every_energy totals [] = refl
every_energy totals (energy ∷ l) = every_energy (with_blocks totals 1 energy) l

every_block : (history : History) → history_through (λ energy. true) no_blocks history ≡ totals_of history
every_block (counted counters) = every_bin none 0 counters
every_block (listed energies) = every_energy none energies

all_blocks_lem : (totals : Totals) (l : List History) → all_blocks totals l ≡ all_totals totals l
unfolding all_blocks all_totals
all_blocks_lem totals [] = refl
all_blocks_lem totals (history ∷ l) =
    ap (λ (t : Totals). all_blocks (more totals t.count t.sum) l) (every_block history)
    ∙ all_blocks_lem (with_blocks totals (totals_of history).count (totals_of history).sum) l

-- ---- those that the gate lets through
counts_bin : (gate : Float) (bin : ℕ) → bin < bins → leb (start_bin gate) bin ≡ equals_kept gate (energy_at bin)
counts_bin gate bin h = go (leb (start_bin gate) bin) refl
  where
    go : (b : Bool) → leb (start_bin gate) bin ≡ b → b ≡ equals_kept gate (energy_at bin)
    go true e = sym (ap not (from_start gate bin h (leb-true (start_bin gate) bin e)))
    go false e = sym (ap not (below_start gate bin h (leb-false (start_bin gate) bin e)))

module _ (gate : Float) where
  from_there : (totals : Totals) (bin : ℕ) (l : List ℕ) → start_bin gate ≤ bin → bin + length l ≤ bins → bins_through (equals_kept gate) totals bin l ≡ bins_from totals bin l
  unfolding bins_through bins_from
  from_there totals bin [] s h = refl
  from_there totals bin (count ∷ l) s h =
      let with = with_blocks totals count (mul binary64 (of_int binary64 (pos count)) (energy_at bin)) in
      ap (λ (b : Bool). bins_through (equals_kept gate) (cond b with totals) (suc bin) l) (sym (counts_bin gate bin (omega arith)) ∙ le-leb (start_bin gate) bin s)
      ∙ from_there with (suc bin) l (omega arith) (omega arith)

  up_to_there : (totals : Totals) (bin before : ℕ) (l : List ℕ) → bin + before ≡ start_bin gate → bin + length l ≤ bins
      → bins_through (equals_kept gate) totals bin l ≡ bins_from totals (start_bin gate) (drop before l)
  unfolding bins_through bins_from
  up_to_there totals bin zero l e h =
      from_there totals bin l (omega (arith, e)) h ∙ ap (λ (n : ℕ). bins_from totals n l) {x = bin} {y = start_bin gate} (omega (arith, e))
  up_to_there totals bin (suc before) [] e h = refl
  up_to_there totals bin (suc before) (count ∷ l) e h =
      ap (λ (b : Bool). bins_through (equals_kept gate) (cond b (with_blocks totals count (mul binary64 (of_int binary64 (pos count)) (energy_at bin))) totals) (suc bin) l)
      (sym (counts_bin gate bin (omega arith)) ∙ lt-leb (start_bin gate) bin (omega (arith, e)))
      ∙ up_to_there totals (suc bin) before l (omega (arith, e)) (omega arith)

  each_energy : (totals : Totals) (l : List Float) → energies_through (equals_kept gate) totals l ≡ kept_from gate totals l
  unfolding energies_through kept_from
  each_energy totals [] = refl
  each_energy totals (energy ∷ l) = each_energy (cond (equals_kept gate energy) (with_blocks totals 1 energy) totals) l

-- a histogram has its 1,000 counters
abbrev Whole : List History → Type 0
Whole [] = Unit
Whole (counted counters ∷ l) = (length counters ≡ bins) × Whole l
Whole (listed energies ∷ l) = Whole l

all_through_lem : (gate : Float) (totals : Totals) (l : List History) → Whole l → all_through (equals_kept gate) totals l ≡ all_gated gate totals l
unfolding all_through all_gated
all_through_lem gate totals [] w = refl
all_through_lem gate totals (counted counters ∷ l) w =
    ap (λ (t : Totals). all_through (equals_kept gate) t l) (up_to_there gate totals 0 (start_bin gate) counters (omega arith) (omega (arith, w.0)))
    ∙ all_through_lem gate (gated_of gate totals (counted counters)) l w.1
all_through_lem gate totals (listed energies ∷ l) w =
    ap (λ (t : Totals). all_through (equals_kept gate) t l) (each_energy gate totals energies) ∙ all_through_lem gate (gated_of gate totals (listed energies)) l w

-- ---- the sets
module _ (counters : List ℕ) (energies : List Float) where
  all_whole : (l : List Entry) → any_outside (length counters) (length energies) l ≡ false → Whole (all_show counters energies l)
  unfolding any_outside all_show
  all_whole [] h = tt
  all_whole (entry ∷ l) h =
      let w = either_not (is_outside (length counters) (length energies) entry) (any_outside (length counters) (length energies) l) h in
      one entry.shape refl (all_whole l w.1) w.0
    where
      one : (shape : Shape) → entry.shape ≡ shape → Whole (all_show counters energies l) → is_outside (length counters) (length energies) entry ≡ false
          → Whole (shape_shows counters energies shape ∷ all_show counters energies l)
      one (Histogram start) e rest o =
          let inside = counters_inside_lem (length counters) (length energies) entry o in
          let within : start + bins ≤ length counters = rw e at inside in
          (length-take bins (drop start counters) ∙ omega (arith, length-drop start counters), rest)
      one (Queue-at start queue) e rest o = rest

pub gate_over_set : (question : Histories) → number_of (set_rows question) ≡ 0 → gate_of question ≡ measured_set equals_kept (histories_of question)
unfolding gate_of measured_set tenth
gate_over_set question well =
    let shown = histories_of question in
    let whole = all_whole question.counters question.energies (chosen question) (kept question well).inside in
    goes_on (answers (left_of shown)) (set_rows question) (gating_rows (all_of shown) (left_of shown)) well
    ∙ framed (all_of shown) (left_of shown)
    ∙ ap (unless_none (all_of shown)) (sym (all_through_lem (threshold_of (all_of shown)) none shown whole))
    ∙ ap (λ (t : Totals). unless_none t (all_through (equals_kept (threshold_of t)) none shown)) (sym (all_blocks_lem none shown))
