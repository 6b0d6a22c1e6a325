use Rattle.sg_programs.proofs.Worked.{worked_programs}
use Rattle.sg_programs.proofs.examples.worked_programs.Goals as goal

pub returns : goal.returns
returns c = worked_programs
