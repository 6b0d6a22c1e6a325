use Rattle.sg_words.proofs.Worked as worked
use Rattle.sg_words.proofs.laws.refused_words.Goals as goal

pub returns : goal.returns
returns c = worked.refused_words
