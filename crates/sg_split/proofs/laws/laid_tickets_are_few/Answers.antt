use Rattle.sg_split.proofs.Few.{laid_few}
use Rattle.sg_split.proofs.laws.laid_tickets_are_few.Goals as goal

pub returns : goal.returns
returns c = laid_few
