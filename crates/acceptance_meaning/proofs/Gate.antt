-- Demand 2, the gate, proved: "BS.1770 [decides] the meaning of gating". Meaning.antt and Equals.antt carry the proof for queues, Sets.antt for any set. Assumes nothing.
use mathlib.Core.Path.{◌≡◌, refl, sym, ap, ◌∙◌}
use mathlib.Core.List.{List, [], ◌∷◌}
use Prim.Native.Nat.{ℕ}
use lib.Ieee.{Float}
use Rattle.base_refusals.specs.Outcome.{answers}
use Rattle.base_refusals.proofs.Behind.{goes_on, made_of}
use Rattle.history_set.specs.declared.set.Entry.{Entry}
use Rattle.history_set.specs.Set.{History, Histories, histories_of, shows, all_show, set_rows}
use Rattle.gate.specs.Sums.{totals_of, all_of, alone}
use Rattle.gate.specs.Relative.{level_of, level_rows, relative_of}
use Rattle.gate.specs.Gate.{left_of, gating_rows, gate_rows, gate_over, gate_of}
use Rattle.gate.specs.GatedEnergy.{gated_energy_of}
use Rattle.acceptance_meaning.specs.Bs1770.{equals_kept, mean_of_these, measured, measured_gate, Feed, material_of}
use Rattle.acceptance_meaning.specs.Gate.{Fed, GateIsBs1770}
use Rattle.acceptance_meaning.proofs.Meaning.{gate_is_bs1770, threshold_is_gate}
use Rattle.acceptance_meaning.proofs.Equals.{strict_same}
use Rattle.acceptance_meaning.proofs.Sets.{gate_over_set}

over_fed : (feeds : List Feed) (question : Histories) → Fed feeds question → gate_of question ≡ measured equals_kept (material_of feeds)
unfolding gate_of
over_fed feeds question f =
    let shown = histories_of question in
    goes_on (answers (left_of shown)) (set_rows question) (gating_rows (all_of shown) (left_of shown)) f.whole
    ∙ ap (λ (l : List History). gate_over (all_of l) (left_of l)) f.shown
    ∙ gate_is_bs1770 feeds

-- gated energy is the mean of what the gate question answers
means : (question : Histories) → gated_energy_of question ≡ mean_of_these (gate_of question)
unfolding gate_of gated_energy_of
means question = sym (made_of mean_of_these (λ r. refl) (gate_rows question) (answers (left_of (histories_of question))))

over_one : (feed : Feed) (entry : Entry) (counters : List ℕ) (energies : List Float) → Fed (feed ∷ []) (alone entry counters energies)
    → relative_of entry counters energies ≡ measured_gate equals_kept feed.blocks
unfolding relative_of all_show
over_one feed entry counters energies f =
    let history = shows counters energies entry in
    goes_on (answers (level_of (totals_of history))) (set_rows (alone entry counters energies)) (level_rows (totals_of history)) f.whole
    ∙ threshold_is_gate feed history f.shown

pub gate_is_bs1770's : GateIsBs1770
gate_is_bs1770's = record {
  kept = over_fed;
  energy = λ feeds question f. means question ∙ ap mean_of_these (over_fed feeds question f);
  letter = λ feeds question f none. over_fed feeds question f ∙ sym (strict_same (material_of feeds) none.absolute none.known none.relative);
  threshold = over_one;
  sets = gate_over_set;
  sets_energy = λ question well. means question ∙ ap mean_of_these (gate_over_set question well);
}
