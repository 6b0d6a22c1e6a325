use Rattle.sg_programs.proofs.PointSums.{point_reaches_value}
use Rattle.sg_programs.proofs.point_laws.point_reaches_value.Goals as goal

pub returns : goal.returns
returns c = point_reaches_value
