-- Gated energy (01, step 8): "gated energy is sum / count" of the gate question, so what refuses the gate refuses it.
use Rattle.std.specs.Prelude.{Float}
use Rattle.base_refusals.specs.Outcome.{Question, answers}
use Rattle.base_refusals.specs.Rows.{by_rows}
use Rattle.history_set.specs.Set.{Histories, histories_of}
use Rattle.gate.specs.Totals.{mean_of}
use Rattle.gate.specs.Gate.{left_of, gate_rows}

unfoldable pub gated_energy_of : Histories → Question Float
gated_energy_of h = by_rows (gate_rows h) (answers (mean_of (left_of (histories_of h))))
