-- `writer::low_first` meets its contract: a turned number's bytes, low byte first, are the number's, high byte first. Assumes nothing.
use Rattle.std.proofs.Common.{◌∙◌, ap}
use Rattle.base_fields.specs.Field.{low_bytes}
use Rattle.base_fields.proofs.Orders.{turned_low}
use Rattle.record_histogram.proofs.writer.low_first.Goals as goal

pub returns-in-HighFirst : goal.returns-in-HighFirst
returns-in-HighFirst c = rw c.in-HighFirst.is (ap (low_bytes 4) c.turned_word.ensures ∙ turned_low 4 c.args.word)
