-- `words::turned_double_word` meets its contract. Assumes nothing.
use Rattle.base_fields.proofs.Chunks.{turned_eight}
use Rattle.base_fields.proofs.words.turned_double_word.Goals as goal

pub returns : goal.returns
returns c = let t = turned_eight c.args.number in cc
