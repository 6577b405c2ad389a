-- The rows of 01's table that apply to a call, 'Numbers of the refusals': a refusal, and whether it is "given". "Checks run in table order", so the rows stand in a
-- list, and the first that holds refuses the call. A definition of an operation names its rows and what the call comes to where none of them holds.
use Rattle.std.specs.Prelude.{ℕ, zero, suc, ◌≡◌, ◌⊎◌, Bool, true, false, cond, List, [], ◌∷◌, eqb}
use Rattle.base_refusals.specs.Refusal.{Refusal, number}
use Rattle.base_refusals.specs.Outcome.{Outcome, refused, refusal, said_by, kept_by}

pub record Row : Type 0 where
  pub refuses : Refusal
  pub holds : Bool

abbrev pub row : Refusal → Bool → Row
row refuses holds = record { refuses = refuses; holds = holds }

-- what a call comes to: refused by the first row that holds, and the outcome where none does
abbrev pub by_rows : {Kept Values : Type 0} → List Row → Outcome Kept Values → Outcome Kept Values
by_rows [] outcome = outcome
by_rows (row ∷ rest) outcome = cond row.holds (refused row.refuses) (by_rows rest outcome)

-- the number of the first row that holds, and 0 where none does
abbrev pub number_of : List Row → ℕ
number_of [] = 0
number_of (row ∷ rest) = cond row.holds (number row.refuses) (number_of rest)

-- whether a refusal's row holds, the one after so many others of the same name
abbrev pub holds_after : ℕ → Refusal → List Row → Bool
holds_after zero r [] = false
holds_after (suc n) r [] = false
holds_after zero r (row ∷ rest) = cond (eqb (number r) (number row.refuses)) row.holds (holds_after zero r rest)
holds_after (suc n) r (row ∷ rest) = cond (eqb (number r) (number row.refuses)) (holds_after n r rest) (holds_after (suc n) r rest)

abbrev pub holds_of : Refusal → List Row → Bool
holds_of r rows = holds_after 0 r rows

-- ---- "Given exactly when"
-- of these rows, one with number n holds and no earlier one does
abbrev pub FirstIs : ℕ → List Row → Type 0
FirstIs n [] = ⊥
FirstIs n (row ∷ rest) = ((row.holds ≡ true) × (number row.refuses ≡ n)) ⊎ ((row.holds ≡ false) × FirstIs n rest)

pub record RefusedBy {Kept Values : Type 0} (rows : List Row) (call : Outcome Kept Values) : Type 0 where
  -- the call says number n exactly when row n holds and no earlier row does
  pub exactly : (n : ℕ) → (said_by call ≡ refusal n → FirstIs n rows) × (FirstIs n rows → said_by call ≡ refusal n)
  -- and then all that it was lent, and every state, is as given
  pub as_given : (n : ℕ) → said_by call ≡ refusal n → (given : Kept) → kept_by given call ≡ given
