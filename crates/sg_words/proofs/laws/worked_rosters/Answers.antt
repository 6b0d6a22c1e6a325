use Rattle.sg_words.proofs.WorkedRosters.{worked_rosters}
use Rattle.sg_words.proofs.laws.worked_rosters.Goals as goal

pub returns : goal.returns
returns c = worked_rosters
