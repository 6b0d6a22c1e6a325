use Rattle.sg_commit.proofs.Answering as answering
use Rattle.sg_commit.proofs.laws.answers_are_first.Goals as goal

pub returns : goal.returns
returns c = answering.answers_are_first
