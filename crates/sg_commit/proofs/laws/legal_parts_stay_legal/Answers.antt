use Rattle.sg_commit.proofs.Kept.{legal_parts}
use Rattle.sg_commit.proofs.laws.legal_parts_stay_legal.Goals as goal

pub returns : goal.returns
returns c = legal_parts
