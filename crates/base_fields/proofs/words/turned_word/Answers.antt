-- `words::turned_word` meets its contract. Assumes nothing.
use Rattle.base_fields.proofs.Chunks.{turned_four}
use Rattle.base_fields.proofs.words.turned_word.Goals as goal

pub returns : goal.returns
returns c = let t = turned_four c.args.word in cc
