use Rattle.sg_commit.proofs.Small.{small-formed}
use Rattle.sg_commit.proofs.laws.small_is_formed.Goals as goal

pub returns : goal.returns
returns c = small-formed
