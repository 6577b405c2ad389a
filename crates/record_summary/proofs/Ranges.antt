-- The figures by what the range answers, and those of a record by what its reading comes to. Assumes nothing.
use mathlib.Core.Path.{◌≡◌, refl, sym, ap}
use mathlib.Core.List.{List, []}
use Prim.Native.Nat.{ℕ}
use native.Mathlib.Omega.{arith}
use lib.Ieee.{Float}
use Rattle.base_refusals.specs.Refusal.{number}
use Rattle.base_refusals.specs.Outcome.{Outcome, went, refused, NoValues, done, says, refusal, said_by, kept_by}
use Rattle.range.specs.Range.{Span, found, nothing, not_a_number}
use Rattle.record_summary.specs.Summary.{figures_by, figures_of, figures_read}

module _ (blocks : ℕ) where
  pub span_figures : (o : Outcome (List Float) Span) (span : Span) → says span ≡ said_by o → said_by (figures_by blocks o) ≡ said_by (figures_by blocks (went [] span))
  span_figures (went work (found low high)) span e = let is : span ≡ found low high = cc in rw is
  span_figures (went work nothing) span e = let is : span ≡ nothing = cc in rw is
  span_figures (went work not_a_number) span e = let is : span ≡ not_a_number = cc in rw is
  span_figures (refused r) span e = let z : ◌≡◌ {A = ℕ} 0 1 = cc in absurd (omega arith)

  pub refused_figures : (o : Outcome (List Float) Span) (n : ℕ) → refusal n ≡ said_by o → said_by (figures_by blocks o) ≡ refusal n
  refused_figures (went work span) n e = let z : ◌≡◌ {A = ℕ} 0 1 = cc in absurd (omega arith)
  refused_figures (refused r) n e = let m : n ≡ number r = cc in ap refusal (sym m)

-- what was read, and what stands in the counters then
pub read_figures : (o : Outcome (List ℕ) NoValues) (old : List ℕ) → says done ≡ said_by o → figures_read o ≡ figures_of (kept_by old o)
read_figures (went counters values) old e = refl
read_figures (refused r) old e = let z : ◌≡◌ {A = ℕ} 0 1 = cc in absurd (omega arith)

pub unread_figures : (o : Outcome (List ℕ) NoValues) (n : ℕ) → refusal n ≡ said_by o → said_by (figures_read o) ≡ refusal n
unread_figures (went counters values) n e = let z : ◌≡◌ {A = ℕ} 0 1 = cc in absurd (omega arith)
unread_figures (refused r) n e = let m : n ≡ number r = cc in ap refusal (sym m)
