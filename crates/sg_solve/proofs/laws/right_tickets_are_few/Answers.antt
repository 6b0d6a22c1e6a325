use Rattle.sg_solve.proofs.Few.{right_few}
use Rattle.sg_solve.proofs.laws.right_tickets_are_few.Goals as goal

pub returns : goal.returns
returns c = right_few
