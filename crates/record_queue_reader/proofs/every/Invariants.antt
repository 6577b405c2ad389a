use Rattle.std.proofs.Common.{◌≡◌, ℕ, Bool, ◌&&◌, ◌-◌, ◌*◌, ◌/◌, length, drop}
use Rattle.record_layout.specs.Layout.{numbers_in}
use Rattle.record_queue_reader.specs.QueueRecord.{every}
use Rattle.record_queue_reader.proofs.every.Given as goal

abbrev pub invariant-loop-pattern : goal.invariant-loop-pattern
invariant-loop-pattern g l =
    (told : ℕ → Bool) → ((pattern : ℕ) (passes : Bool) → goal.F-post g l.test pattern passes → passes ≡ told pattern)
    → l.all && every told (numbers_in l.order 8 (length l.fields / 8 - l.pattern-index) (drop (8 * l.pattern-index) l.fields)) ≡ every told (numbers_in l.order 8 (length l.fields / 8) l.fields)
