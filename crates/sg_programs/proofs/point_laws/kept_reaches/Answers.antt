use Rattle.sg_programs.proofs.PlayPoints.{kept_reaches}
use Rattle.sg_programs.proofs.point_laws.kept_reaches.Goals as goal

pub returns : goal.returns
returns c = kept_reaches
