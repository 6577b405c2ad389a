-- An operation that is stated by its rows is refused exactly when 01 says, and then nothing has changed (`refused_by`). For code that works out the number of the first
-- row that holds: a number other than 0 is the refusal, 0 lets the call go, and then no row holds. Assumes nothing.
use mathlib.Core.Path.{◌≡◌, refl, sym, ap, ◌∙◌}
use mathlib.Core.Logic.{◌⊎◌, inl, inr}
use mathlib.Core.Bool.{Bool, true, false, cond, true≢false}
use mathlib.Core.List.{List, [], ◌∷◌, ◌++◌}
use Prim.Native.Nat.{ℕ, zero, suc}
use lib.Dec.{eqb}
use Rattle.base_refusals.specs.Refusal.{Refusal, number}
use Rattle.base_refusals.specs.Outcome.{Outcome, went, refused, Said, says, refusal, said_by, kept_by}
use Rattle.base_refusals.specs.Rows.{Row, by_rows, number_of, holds_after, holds_of, FirstIs, RefusedBy}
use Rattle.base_refusals.proofs.Numbers.{no_number}

-- ---- "given exactly when, in table order, and nothing has changed"
number_in : {Values : Type 0} → Said Values → ℕ
number_in (says values) = 0
number_in (refusal n) = n

is_refusal : {Values : Type 0} → Said Values → Bool
is_refusal (says values) = false
is_refusal (refusal n) = true

module _ {Kept Values : Type 0} where
  then_first : (rows : List Row) (kept : Kept) (values : Values) (n : ℕ) → said_by (by_rows rows (went kept values)) ≡ refusal n → FirstIs n rows
  unfolding number_in is_refusal
  then_first [] kept values n e = true≢false (sym (ap is_refusal e))
  then_first (row ∷ rest) kept values n e = go row.holds refl e (then_first rest kept values n)
    where
      go : (b : Bool) → row.holds ≡ b → said_by (cond b (refused row.refuses) (by_rows rest (went kept values))) ≡ refusal n
          → (said_by (by_rows rest (went kept values)) ≡ refusal n → FirstIs n rest)
          → ((row.holds ≡ true) × (number row.refuses ≡ n)) ⊎ ((row.holds ≡ false) × FirstIs n rest)
      go true h e later = inl (h, ap number_in e)
      go false h e later = inr (h, later e)

  first_then : (rows : List Row) (outcome : Outcome Kept Values) (n : ℕ) → FirstIs n rows → said_by (by_rows rows outcome) ≡ refusal n
  first_then [] outcome n f = absurd f
  first_then (row ∷ rest) outcome n (inl f) =
      ap (λ (b : Bool). said_by (cond b (refused row.refuses) (by_rows rest outcome))) f.0 ∙ ap refusal f.1
  first_then (row ∷ rest) outcome n (inr f) =
      ap (λ (b : Bool). said_by (cond b (refused row.refuses) (by_rows rest outcome))) f.0 ∙ first_then rest outcome n f.1

  given_as : (call : Outcome Kept Values) (n : ℕ) → said_by call ≡ refusal n → (given : Kept) → kept_by given call ≡ given
  unfolding is_refusal
  given_as (went kept values) n e given = absurd (true≢false (sym (ap is_refusal e)))
  given_as (refused r) n e given = refl

  pub refused_by : (rows : List Row) (kept : Kept) (values : Values) → RefusedBy rows (by_rows rows (went kept values))
  refused_by rows kept values = record {
    exactly = λ n. (then_first rows kept values n, first_then rows (went kept values) n);
    as_given = given_as (by_rows rows (went kept values));
  }

-- ---- the number of the first row that holds
-- what a call comes to by it: its number is said, and all stays as given
pub record Refuses {Kept Values : Type 0} (outcome : Outcome Kept Values) (before : Kept) (number : ℕ) : Type 0 where
  pub says : refusal number ≡ said_by outcome
  pub keeps : before ≡ kept_by before outcome

module _ {Kept Values : Type 0} (outcome : Outcome Kept Values) where
  -- a row that holds has another number than 0, so the later ones do not count
  pub stopped : (rows : List Row) (before : Kept) (n : ℕ) → n ≡ number_of rows → (n ≡ 0 → ⊥) → Refuses (by_rows rows outcome) before n
  stopped [] before n e h = absurd (h e)
  stopped (row ∷ rest) before n e h = go row.holds e (stopped rest before n)
    where
      go : (b : Bool) → n ≡ cond b (number row.refuses) (number_of rest) → (n ≡ number_of rest → (n ≡ 0 → ⊥) → Refuses (by_rows rest outcome) before n)
          → Refuses (cond b (refused row.refuses) (by_rows rest outcome)) before n
      go true e later = record { says = ap refusal e; keeps = refl }
      go false e later = later e h

  pub goes : (rows : List Row) → number_of rows ≡ 0 → by_rows rows outcome ≡ outcome
  goes [] e = refl
  goes (row ∷ rest) e = go row.holds e (goes rest)
    where
      go : (b : Bool) → cond b (number row.refuses) (number_of rest) ≡ 0 → (number_of rest ≡ 0 → by_rows rest outcome ≡ outcome)
          → cond b (refused row.refuses) (by_rows rest outcome) ≡ outcome
      go true e later = absurd (no_number row.refuses e)
      go false e later = later e

  -- rows, and then more of them
  pub rows_then : (rows more : List Row) → by_rows (rows ++ more) outcome ≡ by_rows rows (by_rows more outcome)
  rows_then [] more = refl
  rows_then (row ∷ rest) more = ap (cond row.holds (refused row.refuses)) (rows_then rest more)

-- where no row holds, a refusal's row does not: it is found by its name, wherever it stands
pub not_held_after : (n : ℕ) (r : Refusal) (rows : List Row) → number_of rows ≡ 0 → holds_after n r rows ≡ false
not_held_after zero r [] e = refl
not_held_after (suc n) r [] e = refl
not_held_after zero r (row ∷ rest) e = go row.holds e (eqb (number r) (number row.refuses)) (not_held_after zero r rest)
  where
    go : (b : Bool) → cond b (number row.refuses) (number_of rest) ≡ 0 → (same : Bool) → (number_of rest ≡ 0 → holds_after zero r rest ≡ false)
        → cond same b (holds_after zero r rest) ≡ false
    go true e same later = absurd (no_number row.refuses e)
    go false e true later = refl
    go false e false later = later e
not_held_after (suc n) r (row ∷ rest) e =
    go row.holds e (eqb (number r) (number row.refuses)) (not_held_after n r rest) (not_held_after (suc n) r rest)
  where
    go : (b : Bool) → cond b (number row.refuses) (number_of rest) ≡ 0 → (same : Bool) → (number_of rest ≡ 0 → holds_after n r rest ≡ false)
        → (number_of rest ≡ 0 → holds_after (suc n) r rest ≡ false) → cond same (holds_after n r rest) (holds_after (suc n) r rest) ≡ false
    go true e same one later = absurd (no_number row.refuses e)
    go false e true one later = one e
    go false e false one later = later e

pub not_held : (r : Refusal) (rows : List Row) → number_of rows ≡ 0 → holds_of r rows ≡ false
not_held = not_held_after 0

-- the number of rows and then more of them: the first rows' where it is one, and else the others'
pub number_first : (rows more : List Row) (n : ℕ) → n ≡ number_of rows → (n ≡ 0 → ⊥) → n ≡ number_of (rows ++ more)
number_first [] more n e h = absurd (h e)
number_first (row ∷ rest) more n e h = go row.holds e (number_first rest more n)
  where
    go : (b : Bool) → n ≡ cond b (number row.refuses) (number_of rest) → (n ≡ number_of rest → (n ≡ 0 → ⊥) → n ≡ number_of (rest ++ more))
        → n ≡ cond b (number row.refuses) (number_of (rest ++ more))
    go true e later = e
    go false e later = later e h

pub number_next : (rows more : List Row) (m : ℕ) → number_of rows ≡ 0 → m ≡ number_of more → m ≡ number_of (rows ++ more)
number_next [] more m e f = f
number_next (row ∷ rest) more m e f = go row.holds e (λ z. number_next rest more m z f)
  where
    go : (b : Bool) → cond b (number row.refuses) (number_of rest) ≡ 0 → (number_of rest ≡ 0 → m ≡ number_of (rest ++ more))
        → m ≡ cond b (number row.refuses) (number_of (rest ++ more))
    go true e later = absurd (no_number row.refuses e)
    go false e later = later e

-- and where the whole has none, neither part has
pub number_parts : (rows more : List Row) → number_of (rows ++ more) ≡ 0 → (number_of rows ≡ 0) × (number_of more ≡ 0)
number_parts [] more e = (refl, e)
number_parts (row ∷ rest) more e = go row.holds e (number_parts rest more)
  where
    go : (b : Bool) → cond b (number row.refuses) (number_of (rest ++ more)) ≡ 0 → (number_of (rest ++ more) ≡ 0 → (number_of rest ≡ 0) × (number_of more ≡ 0))
        → (cond b (number row.refuses) (number_of rest) ≡ 0) × (number_of more ≡ 0)
    go true e later = absurd (no_number row.refuses e)
    go false e later = later e
