use Rattle.sg_commit.proofs.Fixed.{fixed}
use Rattle.sg_commit.proofs.laws.shares_fix_kept.Goals as goal

pub returns : goal.returns
returns c = fixed
