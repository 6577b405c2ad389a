-- What bytes that pass the frame have, each fact found by the name of its row; that such bytes pass; and what the frame's answer tells the calls that ask it first.
-- Assumes nothing.
use mathlib.Core.Path.{◌≡◌}
use mathlib.Core.Bool.{true}
use mathlib.Core.List.{List, ◌++◌}
use Prim.Native.Nat.{ℕ, ◌-◌, ◌≤◌}
use borrow.Author.Tests.{le-ltb, ltb-false, eq-eqb, eqb-true, not-false}
use lib.Dec.{eqb}
use lib.ListN.{length}
use Rattle.base_refusals.specs.declared.Refusal.TheVariants.{LENGTH, KIND}
use Rattle.base_refusals.specs.Outcome.{Outcome, NoValues, done, says, refusal, said_by}
use Rattle.base_refusals.specs.Rows.{Row, by_rows, number_of}
use Rattle.base_refusals.proofs.Rows.{Refuses, not_held, not_held_after}
use Rattle.base_refusals.proofs.Behind.{passed, stopped_said}
use Rattle.record_layout.specs.declared.Kind.{Kind}
use Rattle.record_layout.specs.Layout.{kind_number, can_be, head_width, length_width, length_in, kind_in, frame_rows, frame_of}

-- bytes that pass
pub record Framed (kind : Kind) (bytes : List ℕ) : Type 0 where
  pub long : head_width ≤ length bytes
  pub kind_is : kind_in bytes ≡ kind_number kind
  pub length_is : length_in bytes ≡ length bytes - length_width
  pub can_be_lem : can_be kind (length_in bytes) ≡ true

module _ (kind : Kind) (bytes : List ℕ) where
  pub framed : number_of (frame_rows kind bytes) ≡ 0 → Framed kind bytes
  framed e =
      let rows = frame_rows kind bytes in
      record {
        long = ltb-false (length bytes) head_width (not_held LENGTH rows e);
        kind_is = eqb-true (kind_in bytes) (kind_number kind) (not-false (eqb (kind_in bytes) (kind_number kind)) (not_held KIND rows e));
        length_is =
            eqb-true (length_in bytes) (length bytes - length_width)
            (not-false (eqb (length_in bytes) (length bytes - length_width)) (not_held_after 1 LENGTH rows e));
        can_be_lem = not-false (can_be kind (length_in bytes)) (not_held_after 2 LENGTH rows e);
      }

  pub passes : Framed kind bytes → number_of (frame_rows kind bytes) ≡ 0
  passes f =
      rw (
        le-ltb (length bytes) head_width f.long,
        eq-eqb (kind_in bytes) (kind_number kind) f.kind_is,
        eq-eqb (length_in bytes) (length bytes - length_width) f.length_is,
        f.can_be_lem,
      )

-- ---- what the frame's answer says of calls that ask it first
pub went_on : (kind : Kind) (bytes : List ℕ) (values : NoValues) → says values ≡ said_by (frame_of kind bytes) → number_of (frame_rows kind bytes) ≡ 0
unfolding frame_of
went_on kind bytes values e = (passed done (frame_rows kind bytes) values e).0

pub stopped_there : {Kept Values : Type 0} (outcome : Outcome Kept Values) (kind : Kind) (bytes : List ℕ) (more : List Row) (before : Kept) (n : ℕ)
    → refusal n ≡ said_by (frame_of kind bytes) → Refuses (by_rows (frame_rows kind bytes ++ more) outcome) before n
unfolding frame_of
stopped_there outcome kind bytes more before n e = stopped_said done outcome (frame_rows kind bytes) more before n e
