use Rattle.sg_lp.proofs.Runs.{few_bases}
use Rattle.sg_lp.proofs.laws.bases_are_few.Goals as goal

pub returns : goal.returns
returns c = few_bases
