use Rattle.sg_commit.proofs.Kept.{kept}
use Rattle.sg_commit.proofs.laws.kept_is_commitment.Goals as goal

pub returns : goal.returns
returns c = kept
