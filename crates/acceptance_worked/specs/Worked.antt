-- Worked cases (01, "P: proved together as a single table"):
-- "boundary 0 goes to bin 0; NaN to 0; infinity to 999."
-- "n=4 low 0; n=5 low 1; n=9 high 9; n=10 high 10; n=11 high 10; n=4,294,967,294 low 429,496,729, high 4,080,218,929."
-- "a = 1, -0.5, 0, 0, 0 and b = 1, 0, 0, 0, 0; i16 samples 16384, 0, 0 give 0.5, 0.25, 0.125."
-- proofs/Worked.antt computes the table.
use Rattle.std.specs.Prelude.{ℕ, ◌≡◌, true, false, List, [], ◌∷◌, map, pos, Float}
use Rattle.std.specs.Float.{nan, inf, binary64}
use Rattle.std.specs.Float.Ieee.{round}
use Rattle.base_floats.specs.Entry.{plus_zero}
use Rattle.bins_tables.specs.Tables.{boundary_at}
use Rattle.bins.specs.Bin.{bin_of}
use Rattle.range_ranks.specs.Ranks.{low_rank, high_rank}
use Rattle.samples.specs.Sample.{samples_of16}
use Rattle.filter_recurrence.specs.declared.Memory.{Memory}
use Rattle.filter_recurrence.specs.Recurrence.{outs}

-- what a case comes to: a bin or a rank, or the outputs of a filter
pub data Result : Type 0 where
  number : ℕ → Result
  outputs : List Float → Result

-- what the definitions of the contracts give, and what 01 says
pub record Case : Type 0 where
  pub given : Result
  pub said : Result

abbrev pub gives : Result → Result → Case
gives given said = record { given = given; said = said }

-- ---- the filter: whole numbers and halves are floats as they stand
abbrev pub over : ℕ → ℕ → Float
over numerator denominator = round binary64 false numerator denominator

abbrev pub a : List Float
a = over 1 1 ∷ round binary64 true 1 2 ∷ plus_zero ∷ plus_zero ∷ plus_zero ∷ []

abbrev pub b : List Float
b = over 1 1 ∷ plus_zero ∷ plus_zero ∷ plus_zero ∷ plus_zero ∷ []

abbrev pub at_rest : Memory
at_rest = record { s0 = plus_zero; s1 = plus_zero; s2 = plus_zero; s3 = plus_zero; s4 = plus_zero }

-- ---- the table
abbrev pub cases : List Case
cases =
    gives (number (bin_of (boundary_at 0))) (number 0)
    ∷ gives (number (bin_of nan)) (number 0)
    ∷ gives (number (bin_of (inf false))) (number 999)
    ∷ gives (number (low_rank 4)) (number 0)
    ∷ gives (number (low_rank 5)) (number 1)
    ∷ gives (number (high_rank 9)) (number 9)
    ∷ gives (number (high_rank 10)) (number 10)
    ∷ gives (number (high_rank 11)) (number 10)
    ∷ gives (number (low_rank 4_294_967_294)) (number 429_496_729)
    ∷ gives (number (high_rank 4_294_967_294)) (number 4_080_218_929)
    ∷ gives (outputs (outs a b at_rest (samples_of16 (pos 16384 ∷ pos 0 ∷ pos 0 ∷ [])))) (outputs (over 1 2 ∷ over 1 4 ∷ over 1 8 ∷ []))
    ∷ []

-- in every case the definitions give what 01 says
abbrev pub AllRight : Type 0
AllRight = map (λ (c : Case). c.given) cases ≡ map (λ (c : Case). c.said) cases
