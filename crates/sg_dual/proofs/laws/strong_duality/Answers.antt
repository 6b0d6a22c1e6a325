use Rattle.sg_dual.proofs.Duality.{strong_duality}
use Rattle.sg_dual.proofs.laws.strong_duality.Goals as goal

pub returns : goal.returns
returns c = strong_duality
