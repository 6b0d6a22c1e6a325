use Rattle.sg_upper.proofs.Worked.{worked_uppers}
use Rattle.sg_upper.proofs.examples.worked_uppers.Goals as goal

pub returns : goal.returns
returns c = worked_uppers
