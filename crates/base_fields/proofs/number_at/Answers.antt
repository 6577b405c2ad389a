-- `base_fields::number_at` meets its contract: the bytes of the field that are there say its number. Assumes nothing.
use Rattle.std.proofs.Common.{◌≡◌, ℕ, ◌+◌, ◌-◌, ◌<◌, ◌≤◌, min, Bool, true, false, List, length, take, drop, refl, sym, ◌∙◌, arith, length-take, length-drop}
use borrow.Author.Tests.{ltb-true, ltb-false}
use lib.Dec.{ltb}
use Rattle.base_fields.specs.Field.{field_at, narrowed}
use Rattle.base_fields.proofs.Fields.{narrowed_is, ends_early, past_end}
use Rattle.base_fields.proofs.Written.{field_within}
use Rattle.base_fields.proofs.number_at.Goals as goal

those_there : (bytes part : List ℕ) (at width start n : ℕ) → start ≡ min at (length bytes) → n ≡ min (min width 8) (length bytes - start)
    → part ≡ take n (drop start bytes) → field_at part 0 (length part) ≡ field_at bytes at (narrowed width)
those_there bytes part at width start n s e p =
    let l : length part ≡ n = rw p (simp (length-take, length-drop) (omega arith)) in
    let w = narrowed_is width in
    rw (l, p) (field_within bytes n start 0 start n (omega arith) (omega arith) ∙ go (ltb at (length bytes)) refl)
  where
    go : (b : Bool) → ltb at (length bytes) ≡ b → field_at bytes start n ≡ field_at bytes at (narrowed width)
    go true h =
        let here : at < length bytes = ltb-true at (length bytes) h in
        let w = narrowed_is width in
        let at_start : start ≡ at = omega arith in
        rw at_start (ends_early bytes at n (narrowed width) (omega arith) (λ more. omega arith))
    go false h =
        let past : length bytes ≤ at = ltb-false at (length bytes) h in
        past_end bytes start n (omega arith) ∙ sym (past_end bytes at (narrowed width) past)

pub returns : goal.returns
returns c =
    let start = c.min-start.result in
    let n = c.min-2.result in
    let end : start + n - start ≡ n = omega arith in
    rw end at c.number_of.ensures ∙ those_there c.args.bytes.now _ c.args.at c.args.width start n (omega arith) (omega arith) refl
