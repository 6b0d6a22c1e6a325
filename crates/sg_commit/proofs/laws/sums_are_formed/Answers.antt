use Rattle.sg_commit.proofs.SumSteps.{sums_are_formed}
use Rattle.sg_commit.proofs.laws.sums_are_formed.Goals as goal

pub returns : goal.returns
returns c = sums_are_formed
