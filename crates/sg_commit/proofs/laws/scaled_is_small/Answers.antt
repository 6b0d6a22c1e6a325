use Rattle.sg_commit.proofs.Small.{scaled-small}
use Rattle.sg_commit.proofs.laws.scaled_is_small.Goals as goal

pub returns : goal.returns
returns c = scaled-small
