use Rattle.sg_programs.proofs.PlayPoints.{point_reaches_fact}
use Rattle.sg_programs.proofs.point_laws.point_reaches_fact.Goals as goal

pub returns : goal.returns
returns c = point_reaches_fact
