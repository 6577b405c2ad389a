-- `record_layout::frame` meets its contract: each test is a row, in the order of the rows. Assumes nothing.
use mathlib.Core.Path.{◌≡◌, sym, ap, ◌∙◌}
use mathlib.Core.Bool.{true, false}
use Prim.Native.Nat.{◌-◌}
use borrow.Author.Tests.{lt-ltb, le-ltb, eq-eqb, ne_eqb}
use lib.Dec.{eqb, ltb}
use lib.ListN.{length}
use Rattle.record_layout.specs.Layout.{kind_number, can_be, head_width, length_width, kind_in, length_in, frame_of}
use Rattle.record_layout.proofs.frame.Goals as goal
use Rattle.record_layout.proofs.frame.Goals.{After-can_be, Else-bytes-lt-HEAD, Else-length-bytes, Else-number_at-from}

-- ---- past each test
long : (c : Else-bytes-lt-HEAD) → let bytes = c.args.bytes.now in ltb (length bytes) head_width ≡ false
long c = le-ltb (length c.args.bytes.now) head_width c.if-bytes-lt-HEAD.false

same_kind : (c : Else-number_at-from) → let a = c.args in eqb (kind_in a.bytes.now) (kind_number a.kind) ≡ true
same_kind c =
    let a = c.args in
    eq-eqb (kind_in a.bytes.now) (kind_number a.kind) (sym c.number_at.ensures ∙ c.if-number_at-from.false ∙ c.from.ensures)

same_length : (c : Else-length-bytes) → let bytes = c.args.bytes.now in
    eqb (length_in bytes) (length bytes - length_width) ≡ true
same_length c =
    let bytes = c.args.bytes.now in
    eq-eqb (length_in bytes) (length bytes - length_width) (sym c.number_at-length.ensures ∙ c.if-length-bytes.false)

pub returns-then-bytes-lt-HEAD : goal.returns-then-bytes-lt-HEAD
unfolding frame_of
returns-then-bytes-lt-HEAD c = rw (lt-ltb (length c.args.bytes.now) head_width c.if-bytes-lt-HEAD.true)

pub returns-then-number_at-from : goal.returns-then-number_at-from
unfolding frame_of
returns-then-number_at-from c =
    let a = c.args in
    rw (
      long (goal.at.returns-then-number_at-from c).Else-bytes-lt-HEAD,
      ne_eqb (kind_in a.bytes.now) (kind_number a.kind) (λ e. c.if-number_at-from.true (c.number_at.ensures ∙ e ∙ sym c.from.ensures)),
    )

pub returns-then-length-bytes : goal.returns-then-length-bytes
unfolding frame_of
returns-then-length-bytes c =
    let bytes = c.args.bytes.now in
    rw (
      long (goal.at.returns-then-length-bytes c).Else-bytes-lt-HEAD,
      same_kind (goal.at.returns-then-length-bytes c).Else-number_at-from,
      ne_eqb (length_in bytes) (length bytes - length_width) (λ e. c.if-length-bytes.true (c.number_at-length.ensures ∙ e)),
    )

-- what the kind's own rule decides
ruled : (c : After-can_be) → let a = c.args in
    can_be a.kind (length_in a.bytes.now) ≡ c.can_be.result
ruled c =
    let a = c.args in
    ap (can_be a.kind) (sym c.number_at-length.ensures) ∙ sym c.can_be.ensures

pub returns-then-not-can_be : goal.returns-then-not-can_be
unfolding frame_of
returns-then-not-can_be c =
    let at = goal.at.returns-then-not-can_be c in
    rw (long at.Else-bytes-lt-HEAD, same_kind at.Else-number_at-from, same_length at.Else-length-bytes, ruled at.After-can_be ∙ c.if-not-can_be.true)

pub returns : goal.returns
unfolding frame_of
returns c =
    let at = goal.at.returns c in
    rw (long at.Else-bytes-lt-HEAD, same_kind at.Else-number_at-from, same_length at.Else-length-bytes, ruled at.After-can_be ∙ c.if-not-can_be.false)
