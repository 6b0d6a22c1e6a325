use Rattle.sg_words.proofs.Written as written
use Rattle.sg_words.proofs.laws.words_give.Goals as goal

pub returns : goal.returns
returns c = written.words_give
