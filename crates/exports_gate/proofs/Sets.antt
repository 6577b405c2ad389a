-- The gate question and gated energy go by the entries of a set that count, and refuse more than a set may have with SET. Assumes nothing.
use Rattle.std.proofs.Common.{◌≡◌, ℕ, ◌||◌, not, List, ◌∷◌, [], ◌++◌, length, ltb, Float, ap, ◌∙◌, lt-ltb}
use Rattle.base_refusals.specs.declared.Refusal.TheVariants.{STORE, SET}
use Rattle.base_refusals.specs.Outcome.{Question, answers}
use Rattle.base_refusals.specs.Rows.{Row, row, by_rows}
use Rattle.history_set.specs.declared.set.Entry.{Entry}
use Rattle.history_set.specs.Set.{most_histories, any_outside, all_sound, all_show}
use Rattle.gate.specs.declared.blocks.Totals.{Totals}
use Rattle.gate.specs.Totals.{mean_of}
use Rattle.gate.specs.Sums.{all_of}
use Rattle.gate.specs.Gate.{left_of, gating_rows, gate_of}
use Rattle.gate.specs.GatedEnergy.{gated_energy_of}
use Rattle.exports_entries.proofs.Asked.{OfASet}

-- by how many entries count, and which
module _ (counters : List ℕ) (energies : List Float) where
  abbrev left : List Entry → Totals
  left entries = left_of (all_show counters energies entries)

  abbrev rows : ℕ → List Entry → List Row
  rows count entries =
      (row SET (ltb most_histories count || any_outside (length counters) (length energies) entries) ∷ row STORE (not (all_sound energies entries)) ∷ [])
      ++ gating_rows (all_of (all_show counters energies entries)) (left entries)

  abbrev gated : ℕ → List Entry → Question Totals
  gated count entries = by_rows (rows count entries) (answers (left entries))

  abbrev energy : ℕ → List Entry → Question Float
  energy count entries = by_rows (rows count entries) (answers (mean_of (left entries)))

  same : {A : Type 0} (f : ℕ → List Entry → A) {count other : ℕ} {entries more : List Entry} → count ≡ other → entries ≡ more → f count entries ≡ f other more
  same f {count} {other} {entries} p q = ap (λ (n : ℕ). f n entries) p ∙ ap (f other) q

pub gate_of_set : OfASet gate_of
unfolding gate_of
gate_of_set = record {
  many = λ h l. rw (lt-ltb most_histories h.count l);
  chosen_only = λ entries more count other counters energies p q. same counters energies (gated counters energies) p q;
}

pub energy_of_set : OfASet gated_energy_of
unfolding gated_energy_of
energy_of_set = record {
  many = λ h l. rw (lt-ltb most_histories h.count l);
  chosen_only = λ entries more count other counters energies p q. same counters energies (energy counters energies) p q;
}
