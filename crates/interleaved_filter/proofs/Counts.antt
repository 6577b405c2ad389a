-- The number of channels decides: at the filter's own the call is the call over the slice, at any other nothing is altered. Assumes nothing.
use mathlib.Core.Path.{◌≡◌, refl, sym, ap, ◌∙◌}
use Prim.Native.Nat.{ℕ}
use mathlib.Core.List.{List}
use lib.Ieee.{Float}
use borrow.Author.Tests.{eq-eqb, ne_eqb}
use Rattle.base_refusals.specs.Outcome.{Outcome, went, refused, said_by, kept_by, NoValues, Said, says}
use Rattle.filter.specs.declared.Filter.{Filter}
use Rattle.filter.specs.Call.{Call, Kept, given, kept}
use Rattle.interleaved_filter.specs.Over.{Taken, other_channels, whole, over, left}
use Rattle.interleaved_filter.specs.Said.{as_taken}

says_whole : (o : Outcome Kept NoValues) → as_taken (said_by o) ≡ said_by (whole o)
says_whole (went k v) = refl
says_whole (refused r) = refl

keeps_whole : (before : Kept) (o : Outcome Kept NoValues) → kept_by before o ≡ kept_by before (whole o)
keeps_whole before (went k v) = refl
keeps_whole before (refused r) = refl

module _ (operation : Call → Outcome Kept NoValues) (channels : ℕ) (call : Call) where
  other : (channels ≡ call.filter.channels → ⊥) → over operation channels call ≡ went (given call) other_channels
  other h = rw (ne_eqb channels call.filter.channels h)

  same : channels ≡ call.filter.channels → over operation channels call ≡ whole (operation call)
  same e = rw (eq-eqb channels call.filter.channels e)

  left_same : channels ≡ call.filter.channels → kept operation call ≡ left operation channels call
  left_same e = keeps_whole (given call) (operation call) ∙ ap (λ (o : Outcome Kept Taken). kept_by (given call) o) (sym (same e))

  -- what the call over the slice says and leaves, handed on
  module _ (e : channels ≡ call.filter.channels) where
    pub said_on : (x : Said Taken) (y : Said NoValues) → x ≡ as_taken y → y ≡ said_by (operation call) → x ≡ said_by (over operation channels call)
    said_on x y h k = h ∙ ap as_taken k ∙ says_whole (operation call) ∙ ap (λ (o : Outcome Kept Taken). said_by o) (sym (same e))

    pub filter_on : (x y : Filter) → x ≡ y → y ≡ (kept operation call).filter → x ≡ (left operation channels call).filter
    filter_on x y h k = h ∙ k ∙ ap (λ (z : Kept). z.filter) (left_same e)

    pub dest_on : (x : List Float) → x ≡ (kept operation call).dest → x ≡ (left operation channels call).dest
    dest_on x k = k ∙ ap (λ (z : Kept). z.dest) (left_same e)

  -- nothing is altered
  module _ (h : channels ≡ call.filter.channels → ⊥) where
    pub said_off : (x : Said Taken) → x ≡ says other_channels → x ≡ said_by (over operation channels call)
    said_off x k = k ∙ ap (λ (o : Outcome Kept Taken). said_by o) (sym (other h))

    pub filter_off : (x : Filter) → x ≡ call.filter → x ≡ (left operation channels call).filter
    filter_off x k = k ∙ ap (λ (o : Outcome Kept Taken). (kept_by (given call) o).filter) (sym (other h))

    pub dest_off : call.dest ≡ (left operation channels call).dest
    dest_off = ap (λ (o : Outcome Kept Taken). (kept_by (given call) o).dest) (sym (other h))
