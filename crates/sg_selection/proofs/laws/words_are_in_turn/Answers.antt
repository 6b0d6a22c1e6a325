use Rattle.sg_selection.proofs.Words.{words_in_turn}
use Rattle.sg_selection.proofs.laws.words_are_in_turn.Goals as goal

pub returns : goal.returns
returns c = words_in_turn
