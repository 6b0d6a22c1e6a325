use Rattle.sg_solve.proofs.Formed.{value_sums_agree}
use Rattle.sg_solve.proofs.laws.value_sums_agree.Goals as goal

pub returns : goal.returns
returns c = value_sums_agree
