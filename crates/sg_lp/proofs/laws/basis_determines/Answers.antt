use Rattle.sg_lp.proofs.Determined.{determined}
use Rattle.sg_lp.proofs.laws.basis_determines.Goals as goal

pub returns : goal.returns
returns c = determined
