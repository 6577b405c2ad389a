-- What a record's operation answers is told by the code and the values of its outcome. Assumes nothing.
use mathlib.Core.Path.{◌≡◌, refl, ap, ◌∙◌}
use Prim.Native.Nat.{ℕ}
use Rattle.base_refusals.specs.Outcome.{Outcome, went, refused, Said, said_by}
use Rattle.base_refusals.specs.Codes.{code, value_or}
use Rattle.exports_records.specs.Inner.{code_said, value_said}

module _ {Kept Values : Type 0} (said : Said Values) where
  pub code_told : (o : Outcome Kept Values) (r : ℕ) → r ≡ code_said said → said ≡ said_by o → r ≡ code o
  code_told o r told e = told ∙ ap code_said e ∙ go o
    where
      go : (o : Outcome Kept Values) → code_said (said_by o) ≡ code o
      go (went kept values) = refl
      go (refused r) = refl

  pub value_told : (o : Outcome Kept Values) (old : Values) → said ≡ said_by o → value_said old said ≡ value_or old o
  value_told o old e = ap (value_said old) e ∙ go o
    where
      go : (o : Outcome Kept Values) → value_said old (said_by o) ≡ value_or old o
      go (went kept values) = refl
      go (refused r) = refl
