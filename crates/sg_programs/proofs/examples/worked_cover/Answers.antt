use Rattle.sg_programs.proofs.WorkedCovers.{worked_cover, worked_point}
use Rattle.sg_programs.proofs.examples.worked_cover.Goals as goal

pub returns-clause-program : goal.returns-clause-program
returns-clause-program c = worked_cover

pub returns-clause-point : goal.returns-clause-point
returns-clause-point c = worked_point
