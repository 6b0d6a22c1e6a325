use Rattle.sg_simplex.proofs.Causes.{cause_one}
use Rattle.sg_simplex.proofs.laws.cause_is_one.Goals as goal

pub returns : goal.returns
returns c = cause_one
