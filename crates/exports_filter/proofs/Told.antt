-- A call of the filter as the C interface tells it: the code of what it says, and what it keeps. Assumes nothing.
use Rattle.std.proofs.Common.{◌≡◌, ◌∙◌, Result, ℕ}
use Rattle.base_refusals.specs.Answer.{said}
use Rattle.base_refusals.specs.declared.Refusal.{Refusal}
use Rattle.base_refusals.specs.Outcome.{Outcome, said_by, NoValues}
use Rattle.base_refusals.specs.Codes.{code, number_said}
use Rattle.base_refusals.proofs.Told.{answer_told}
use Rattle.filter.specs.Call.{Call, Kept, kept}

pub told : (operation : Call → Outcome Kept NoValues) {Left : Type 0} (part : Kept → Left) (answer : Result NoValues Refusal) {n : ℕ} {left : Left} → n ≡ number_said answer → (call : Call)
    → (said answer ≡ said_by (operation call)) × (left ≡ part (kept operation call)) → (n ≡ code (operation call)) × (left ≡ part (kept operation call))
told operation part answer number call h = (number ∙ answer_told (operation call) answer h.0, h.1)
