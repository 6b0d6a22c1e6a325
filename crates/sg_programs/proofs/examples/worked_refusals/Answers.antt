use Rattle.sg_programs.proofs.Refused.{worked_refusals}
use Rattle.sg_programs.proofs.examples.worked_refusals.Goals as goal

pub returns : goal.returns
returns c = worked_refusals
