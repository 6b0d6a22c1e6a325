use Rattle.sg_programs.proofs.PlayPoints.{no_point_means_empty}
use Rattle.sg_programs.proofs.point_laws.no_point_means_empty.Goals as goal

pub returns : goal.returns
returns c = no_point_means_empty
