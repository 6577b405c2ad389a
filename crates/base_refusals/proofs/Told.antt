-- From what an answer says, its outcome tells the C interface's code and value: values are answered with 0, a refusal's number with nothing written.
-- Assumes nothing.
use mathlib.Core.Path.{◌≡◌, refl}
use Prim.Native.Nat.{ℕ}
use native.Mathlib.Omega.{arith}
use Rattle.base_refusals.specs.Outcome.{Outcome, went, refused, says, refusal, said_by}
use Rattle.base_refusals.specs.Answer.{said}
use Rattle.std.specs.Prelude.{Result, Ok, Err}
use Rattle.base_refusals.specs.Refusal.{Refusal}
use Rattle.base_refusals.specs.Codes.{code, value_or, number_said}

pub values_told : {Kept Values : Type 0} (o : Outcome Kept Values) (old v : Values) → says v ≡ said_by o → (0 ≡ code o) × (v ≡ value_or old o)
values_told (went kept w) old v h = (refl, cc)
values_told (refused r) old v h = absurd (let z : ◌≡◌ {A = ℕ} 0 1 = cc in omega arith)

pub refusal_told : {Kept Values : Type 0} (o : Outcome Kept Values) (old : Values) (n : ℕ) → refusal n ≡ said_by o → (n ≡ code o) × (old ≡ value_or old o)
refusal_told (went kept w) old n h = absurd (let z : ◌≡◌ {A = ℕ} 0 1 = cc in omega arith)
refusal_told (refused r) old n h = (cc, refl)

-- whatever is answered, the code is the answer's number
pub answer_told : {Kept Values : Type 0} (o : Outcome Kept Values) (a : Result Values Refusal) → said a ≡ said_by o → number_said a ≡ code o
answer_told (went kept v) (Ok w) h = refl
answer_told (went kept v) (Err r) h = absurd (let z : ◌≡◌ {A = ℕ} 0 1 = cc in omega arith)
answer_told (refused r) (Ok w) h = absurd (let z : ◌≡◌ {A = ℕ} 0 1 = cc in omega arith)
answer_told (refused r) (Err q) h = cc
