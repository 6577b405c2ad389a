-- What a history has at or above the gate, counted from 0 on top of a running sum: how many blocks came before plays no part in it, so their number is added.
-- What the gate question comes to. Assumes nothing.
use Rattle.std.proofs.Common.{◌≡◌, ℕ, suc, ◌+◌, Bool, true, false, cond, List, [], ◌∷◌, drop, pos, sym, refl, ap, ◌∙◌, arith}
use lib.Ieee.{Float, binary64, mul, of_int}
use Rattle.base_refusals.specs.Outcome.{says, refusal, answers, said_by}
use Rattle.bins_tables.specs.Tables.{energy_at}
use Rattle.history_set.specs.Set.{History, counted, listed, Histories, histories_of}
use Rattle.gate.specs.declared.blocks.Totals.{Totals}
use Rattle.gate.specs.Totals.{none, on_top_of, with_blocks, bins_from}
use Rattle.gate.specs.Start.{start_bin, counts}
use Rattle.gate.specs.Inner.{sums_of}
use Rattle.gate.proofs.Asked.{sums_told, refused_behind, asked_behind}
use Rattle.gate.proofs.Looking.{same}
use Rattle.gate.specs.Kept.{kept_from}
use Rattle.gate.specs.Sums.{all_of}
use Rattle.gate.specs.Relative.{threshold_of}
use Rattle.gate.specs.Gate.{gated_of, all_gated, left_of, gating_rows, gate_over, gate_of}

module _ (before : ℕ) where
  -- so many blocks came before
  abbrev after : Totals → Totals
  after totals = record { count = before + totals.count; sum = totals.sum }

  after_blocks : (totals : Totals) (blocks : ℕ) (energy : Float) → with_blocks (after totals) blocks energy ≡ after (with_blocks totals blocks energy)
  after_blocks totals blocks energy = same (omega arith) refl

  bins_after : (totals : Totals) (bin : ℕ) (l : List ℕ) → bins_from (after totals) bin l ≡ after (bins_from totals bin l)
  unfolding bins_from
  bins_after totals bin [] = refl
  bins_after totals bin (blocks ∷ l) =
      let energy = mul binary64 (of_int binary64 (pos blocks)) (energy_at bin) in
      ap (λ (t : Totals). bins_from t (suc bin) l) (after_blocks totals blocks energy) ∙ bins_after (with_blocks totals blocks energy) (suc bin) l

  kept_after : (threshold : Float) (totals : Totals) (l : List Float) → kept_from threshold (after totals) l ≡ after (kept_from threshold totals l)
  unfolding kept_from
  kept_after threshold totals [] = refl
  kept_after threshold totals (energy ∷ rest) =
      go (counts threshold energy)
      (ap (λ (t : Totals). kept_from threshold t rest) (after_blocks totals 1 energy) ∙ kept_after threshold (with_blocks totals 1 energy) rest)
      (kept_after threshold totals rest)
    where
      go : (b : Bool) → kept_from threshold (with_blocks (after totals) 1 energy) rest ≡ after (kept_from threshold (with_blocks totals 1 energy) rest)
          → kept_from threshold (after totals) rest ≡ after (kept_from threshold totals rest)
          → kept_from threshold (cond b (with_blocks (after totals) 1 energy) (after totals)) rest ≡ after (kept_from threshold (cond b (with_blocks totals 1 energy) totals) rest)
      go true kept passed = kept
      go false kept passed = passed

  gated_after : (threshold : Float) (totals : Totals) (history : History) → gated_of threshold (after totals) history ≡ after (gated_of threshold totals history)
  gated_after threshold totals (counted counters) = bins_after totals (start_bin threshold) (drop (start_bin threshold) counters)
  gated_after threshold totals (listed energies) = kept_after threshold totals energies

pub gated_on : (threshold : Float) (totals : Totals) (history : History) (gated : Totals) → gated ≡ gated_of threshold (on_top_of totals.sum) history
    → ◌≡◌ {A = Totals} (record { count = totals.count + gated.count; sum = gated.sum }) (gated_of threshold totals history)
gated_on threshold totals history gated e =
    ap (after totals.count) e
    ∙ sym (gated_after totals.count threshold (on_top_of totals.sum) history)
    ∙ ap (λ (n : ℕ). gated_of threshold (record { count = n; sum = totals.sum }) history) {x = totals.count + 0} {y = totals.count} (omega arith)

-- ---- the gate question, behind what refuses a set
module _ (h : Histories) where
  pub gate_refused : (n : ℕ) → refusal n ≡ said_by (sums_of h) → refusal n ≡ said_by (gate_of h)
  unfolding gate_of
  gate_refused = refused_behind h (answers (left_of (histories_of h))) (gating_rows (all_of (histories_of h)) (left_of (histories_of h))) (gate_of h) refl

  pub gate_asked : (all left : Totals) (threshold : Float) → says all ≡ said_by (sums_of h) → threshold ≡ threshold_of all
      → left ≡ all_gated threshold none (histories_of h) → said_by (gate_over all left) ≡ said_by (gate_of h)
  unfolding gate_of
  gate_asked all left threshold p q r =
      let told = sums_told h all p in
      rw (r, q, told.1) (asked_behind h (answers (left_of (histories_of h))) (gating_rows (all_of (histories_of h)) (left_of (histories_of h))) (gate_of h) refl told.0)
