-- A range as the C interface tells it. Assumes nothing.
use mathlib.Core.Path.{◌≡◌, refl}
use Prim.Native.Nat.{ℕ}
use native.Mathlib.Omega.{arith}
use lib.Ieee.{Float}
use Rattle.base_refusals.specs.Outcome.{Outcome, went, refused, says, refusal, said_by, answers}
use Rattle.range.specs.Range.{Span, found, nothing, not_a_number}
use Rattle.exports_range.specs.Spans.{span_code, low_or, high_or}

pub span_told : {Kept : Type 0} (o : Outcome Kept Span) (low high : Float) (span : Span) → says span ≡ said_by o
    → (span_code (answers span) ≡ span_code o) × (low_or low (answers span) ≡ low_or low o) × (high_or high (answers span) ≡ high_or high o)
span_told (went kept (found l h)) low high span e = let is : span ≡ found l h = cc in rw is (refl, refl, refl)
span_told (went kept nothing) low high span e = let is : span ≡ nothing = cc in rw is (refl, refl, refl)
span_told (went kept not_a_number) low high span e = let is : span ≡ not_a_number = cc in rw is (refl, refl, refl)
span_told (refused r) low high span e = absurd (let z : ◌≡◌ {A = ℕ} 0 1 = cc in omega arith)

pub no_span_told : {Kept : Type 0} (o : Outcome Kept Span) (low high : Float) (n : ℕ) → refusal n ≡ said_by o
    → (n ≡ span_code o) × (low ≡ low_or low o) × (high ≡ high_or high o)
no_span_told (went kept span) low high n e = absurd (let z : ◌≡◌ {A = ℕ} 0 1 = cc in omega arith)
no_span_told (refused r) low high n e = (cc, refl, refl)
