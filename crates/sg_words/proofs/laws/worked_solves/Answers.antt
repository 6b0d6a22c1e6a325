use Rattle.sg_words.proofs.WorkedSolves.{worked_solves}
use Rattle.sg_words.proofs.laws.worked_solves.Goals as goal

pub returns : goal.returns
returns c = worked_solves
