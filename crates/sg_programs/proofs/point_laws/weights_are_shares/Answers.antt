use Rattle.sg_programs.proofs.PointSums.{weights_are_shares}
use Rattle.sg_programs.proofs.point_laws.weights_are_shares.Goals as goal

pub returns : goal.returns
returns c = weights_are_shares
