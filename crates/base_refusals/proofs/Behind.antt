-- What stands behind the rows of an operation: it is all that counts where no row holds, and what passes refusals on as they are says of the operation what it says of
-- the outcome behind its rows. Assumes nothing.
use mathlib.Core.Path.{◌≡◌, refl, sym, ap, ◌∙◌}
use mathlib.Core.Bool.{Bool, true, false, cond}
use mathlib.Core.List.{List, [], ◌∷◌, ◌++◌}
use Prim.Native.Nat.{ℕ}
use native.Mathlib.Omega.{arith}
use Rattle.base_refusals.specs.Refusal.{Refusal, number}
use Rattle.base_refusals.specs.Outcome.{Outcome, went, refused, Said, says, refusal, answers, said_by, kept_by}
use Rattle.base_refusals.specs.Rows.{Row, by_rows, number_of}
use Rattle.base_refusals.proofs.Numbers.{no_number}
use Rattle.base_refusals.proofs.Rows.{Refuses, stopped, goes, rows_then, number_first}

module _ {Kept Values : Type 0} (outcome : Outcome Kept Values) where
  -- the first rows refuse a call, whatever follows them
  pub stopped_first : (rows more : List Row) (before : Kept) (n : ℕ) → n ≡ number_of rows → (n ≡ 0 → ⊥) → Refuses (by_rows (rows ++ more) outcome) before n
  stopped_first rows more before n e h = stopped outcome (rows ++ more) before n (number_first rows more n e h) h

  -- or let it go on to the others
  pub goes_on : (rows more : List Row) → number_of rows ≡ 0 → by_rows (rows ++ more) outcome ≡ by_rows more outcome
  goes_on rows more e = rows_then outcome rows more ∙ goes (by_rows more outcome) rows e

  -- outcomes need be the same only where no row holds
  pub same_behind : (rows : List Row) (other : Outcome Kept Values) → (number_of rows ≡ 0 → outcome ≡ other) → by_rows rows outcome ≡ by_rows rows other
  same_behind [] other e = e refl
  same_behind (row ∷ rest) other e = go row.holds e (same_behind rest other)
    where
      go : (b : Bool) → (cond b (number row.refuses) (number_of rest) ≡ 0 → outcome ≡ other)
          → ((number_of rest ≡ 0 → outcome ≡ other) → by_rows rest outcome ≡ by_rows rest other)
          → cond b (refused row.refuses) (by_rows rest outcome) ≡ cond b (refused row.refuses) (by_rows rest other)
      go true e later = refl
      go false e later = later e

-- what is left as it was given stays, refused or not
pub stays : {Kept Values : Type 0} (rows : List Row) (before : Kept) (values : Values) → before ≡ kept_by before (by_rows rows (went before values))
stays [] before values = refl
stays (row ∷ rest) before values = go row.holds (stays rest before values)
  where
    go : (b : Bool) → before ≡ kept_by before (by_rows rest (went before values))
        → before ≡ kept_by before (cond b (refused row.refuses) (by_rows rest (went before values)))
    go true later = refl
    go false later = later

-- ---- what passes refusals on
module _ {Values Others : Type 0} (on : Said Values → Said Others) (passes : (n : ℕ) → on (refusal n) ≡ refusal n) where
  pub through : {Kept Left : Type 0} (rows : List Row) (outcome : Outcome Kept Values) (other : Outcome Left Others)
      → on (said_by outcome) ≡ said_by other → on (said_by (by_rows rows outcome)) ≡ said_by (by_rows rows other)
  through [] outcome other e = e
  through (row ∷ rest) outcome other e = go row.holds (through rest outcome other e)
    where
      go : (b : Bool) → on (said_by (by_rows rest outcome)) ≡ said_by (by_rows rest other)
          → on (said_by (cond b (refused row.refuses) (by_rows rest outcome))) ≡ said_by (cond b (refused row.refuses) (by_rows rest other))
      go true later = passes (number row.refuses)
      go false later = later

  -- where values are said, no row holds
  pub none_held : {Kept : Type 0} (rows : List Row) (outcome : Outcome Kept Values) (values : Others) → says values ≡ on (said_by (by_rows rows outcome)) → number_of rows ≡ 0
  none_held [] outcome values e = refl
  none_held (row ∷ rest) outcome values e = go row.holds e (none_held rest outcome values)
    where
      go : (b : Bool) → says values ≡ on (said_by (cond b (refused row.refuses) (by_rows rest outcome)))
          → (says values ≡ on (said_by (by_rows rest outcome)) → number_of rest ≡ 0) → cond b (number row.refuses) (number_of rest) ≡ 0
      go true e later =
          let no : ◌≡◌ {A = Said Others} (says values) (refusal (number row.refuses)) = e ∙ passes (number row.refuses) in
          let z : ◌≡◌ {A = ℕ} 0 1 = cc in
          absurd (omega arith)
      go false e later = later e

-- what is made of an outcome, where a refusal stays one
pub made_of : {Kept Values Kept' Values' : Type 0} (f : Outcome Kept Values → Outcome Kept' Values') → ((r : Refusal) → f (refused r) ≡ refused r)
    → (rows : List Row) (outcome : Outcome Kept Values) → f (by_rows rows outcome) ≡ by_rows rows (f outcome)
made_of f h [] outcome = refl
made_of f h (row ∷ rest) outcome = go row.holds (made_of f h rest outcome)
  where
    go : (b : Bool) → f (by_rows rest outcome) ≡ by_rows rest (f outcome)
        → f (cond b (refused row.refuses) (by_rows rest outcome)) ≡ cond b (refused row.refuses) (by_rows rest (f outcome))
    go true e = h row.refuses
    go false e = e

-- ---- rows that are asked first, by themselves: what was said of them
module _ {Asked : Type 0} (asked : Asked) where
  pub told : (rows : List Row) (n : ℕ) → refusal n ≡ said_by (by_rows rows (answers asked)) → (n ≡ number_of rows) × (n ≡ 0 → ⊥)
  told [] n e = let z : ◌≡◌ {A = ℕ} 0 1 = cc in absurd (omega arith)
  told (row ∷ rest) n e = go row.holds e (told rest n)
    where
      go : (b : Bool) → refusal n ≡ said_by (cond b (refused row.refuses) (by_rows rest (answers asked)))
          → (refusal n ≡ said_by (by_rows rest (answers asked)) → (n ≡ number_of rest) × (n ≡ 0 → ⊥))
          → (n ≡ cond b (number row.refuses) (number_of rest)) × (n ≡ 0 → ⊥)
      go true e later = let m : n ≡ number row.refuses = cc in (m, λ z. no_number row.refuses (sym m ∙ z))
      go false e later = later e

  pub stopped_said : {Kept Values : Type 0} (outcome : Outcome Kept Values) (rows more : List Row) (before : Kept) (n : ℕ)
      → refusal n ≡ said_by (by_rows rows (answers asked)) → Refuses (by_rows (rows ++ more) outcome) before n
  stopped_said outcome rows more before n e = let t = told rows n e in stopped_first outcome rows more before n t.0 t.1

  -- values that were said are those that were asked for
  pub passed : (rows : List Row) (values : Asked) → says values ≡ said_by (by_rows rows (answers asked)) → (number_of rows ≡ 0) × (values ≡ asked)
  passed rows values e =
      let z = none_held (λ (s : Said Asked). s) (λ n. refl) rows (answers asked) values e in
      let said : says values ≡ says asked = e ∙ ap said_by (goes (answers asked) rows z) in
      (z, cc)
