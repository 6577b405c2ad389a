-- `record_layout::put_head` meets its contract: each field goes into a part of the output that is as long as the field is wide. Assumes nothing.
use mathlib.Core.Path.{sym, ap, ◌∙◌}
use mathlib.Core.List.{◌++◌}
use native.Mathlib.Omega.{arith}
use lib.ListN.{length, take, drop}
use Rattle.base_fields.specs.Field.{low_bytes}
use Rattle.record_layout.proofs.Heads.{head_put, no_head}
use Rattle.record_layout.proofs.put_head.Goals as goal

pub returns-then-out-ge-HEAD : goal.returns-then-out-ge-HEAD
returns-then-out-ge-HEAD c =
    let a = c.args in
    let field = take 2 (drop 4 (c.put_number.new.field ++ drop 4 a.out.now)) in
    head_put a.kind a.length a.out.now c.put_number.new.field c.put_number-then-out-ge-HEAD.new.field (omega arith) c.put_number.ensures
    (c.put_number-then-out-ge-HEAD.ensures ∙ ap (low_bytes (length field)) c.from.ensures)

pub returns-else-out-ge-HEAD : goal.returns-else-out-ge-HEAD
returns-else-out-ge-HEAD c = let a = c.args in sym (no_head a.kind a.length a.out.now c.if-out-ge-HEAD.false)
