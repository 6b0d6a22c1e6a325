use Rattle.sg_words.proofs.Ranged.{words_are_in_range}
use Rattle.sg_words.proofs.laws.words_are_in_range.Goals as goal

pub returns : goal.returns
returns c = words_are_in_range
