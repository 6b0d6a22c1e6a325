use Rattle.sg_dual.proofs.Duality.{weak_duality}
use Rattle.sg_dual.proofs.laws.weak_duality.Goals as goal

pub returns : goal.returns
returns c = weak_duality
