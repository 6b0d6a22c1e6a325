use Rattle.sg_dual.proofs.Duality.{point_is_optimal}
use Rattle.sg_dual.proofs.laws.point_is_optimal.Goals as goal

pub returns : goal.returns
returns c = point_is_optimal
