-- The numbers of 01 and 02 beside the definitions', by one computed check. Assumes nothing.
use mathlib.Core.Path.{refl}
use lib.Ieee.{of_bits, to_bits, round, lt, neg, div, of_int}
use Rattle.history_queue.specs.Queue.{suits}
use Rattle.gate.specs.Relative.{tenth, lowest}
use Rattle.range_ranks.specs.Span.{hundredth}
use Rattle.samples.specs.Sample.{sample_in}
use Rattle.base_fields.specs.Field.{field_at, low_bytes}
use Rattle.record_layout.specs.Layout.{numbers_in, all_bytes}
use Rattle.acceptance_worked.specs.Literals.{AsWritten}

pub literals : AsWritten
unfolding of_bits to_bits round lt neg div of_int suits tenth lowest hundredth sample_in field_at low_bytes numbers_in all_bytes
literals = refl
