use Rattle.sg_model.proofs.Worked.{worked}
use Rattle.sg_model.proofs.examples.worked_examples.Goals as goal

pub returns : goal.returns
returns c = worked
