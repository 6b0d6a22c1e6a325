use Rattle.std.proofs.Common.{refl}
use Rattle.sg_commit.proofs.laws.worked_sums.Goals as goal

pub returns : goal.returns
returns c = record { steps = refl; attacker = refl; taken = refl; prior = refl; base = refl }
