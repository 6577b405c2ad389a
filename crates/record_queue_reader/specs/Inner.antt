-- What the inner functions work with: where a queue's two numbers stand, patterns of finite energies, and the body's part of a check. No public contract
-- rests on it.
use Rattle.std.specs.Prelude.{ℕ, Bool, ◌&&◌, List, ltb}
use Rattle.base_refusals.specs.Outcome.{Question, answers}
use Rattle.base_refusals.specs.Rows.{by_rows}
use Rattle.history_queue.specs.declared.Queue.{Queue}
use Rattle.record_layout.specs.declared.Model.{Model}
use Rattle.record_layout.specs.Layout.{place_of}
use Rattle.record_queue_reader.specs.QueueRecord.{pattern_fits, every, queue_in, content_rows}

abbrev pub maximum_at : ℕ
maximum_at = place_of 0

abbrev pub held_at : ℕ
held_at = place_of 1

-- infinity's: every pattern below it is that of a finite float, none of them negative
abbrev pub infinity_pattern : ℕ
infinity_pattern = 0x7FF0_0000_0000_0000

-- a pattern that may stand in a record, of a finite float
unfoldable pub finite_fits : ℕ → Bool
finite_fits pattern = ltb pattern infinity_pattern && pattern_fits pattern

abbrev pub all_finite : List ℕ → Bool
all_finite patterns = every finite_fits patterns

-- what comes behind the frame
unfoldable pub body_checked : Model → List ℕ → Question Queue
body_checked model bytes = by_rows (content_rows model bytes) (answers (queue_in model bytes))
