use Rattle.sg_words.proofs.WorkedMakes.{worked_makes}
use Rattle.sg_words.proofs.laws.worked_makes.Goals as goal

pub returns : goal.returns
returns c = worked_makes
