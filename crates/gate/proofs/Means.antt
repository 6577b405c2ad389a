-- The mean of what the gate said is gated energy. Assumes nothing.
use Rattle.std.proofs.Common.{◌≡◌, Float, refl, ap, ◌∙◌}
use Rattle.base_refusals.specs.Outcome.{Said, says, refusal, answers, said_by}
use Rattle.base_refusals.proofs.Behind.{through}
use Rattle.history_set.specs.Set.{Histories, histories_of}
use Rattle.gate.specs.declared.blocks.Totals.{Totals}
use Rattle.gate.specs.Totals.{mean_of}
use Rattle.gate.specs.Gate.{left_of, gate_rows, gate_of}
use Rattle.gate.specs.GatedEnergy.{gated_energy_of}

abbrev pub mean_said : Said Totals → Said Float
mean_said (says totals) = says (mean_of totals)
mean_said (refusal n) = refusal n

pub mean_said_lem : (h : Histories) (told : Said Totals) → told ≡ said_by (gate_of h) → mean_said told ≡ said_by (gated_energy_of h)
unfolding gate_of gated_energy_of
mean_said_lem h told e =
    let left = left_of (histories_of h) in
    ap mean_said e ∙ through mean_said (λ n. refl) (gate_rows h) (answers left) (answers (mean_of left)) refl
