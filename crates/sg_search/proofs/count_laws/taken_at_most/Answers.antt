use Rattle.sg_search.proofs.Taken.{taken_at_most}
use Rattle.sg_search.proofs.count_laws.taken_at_most.Goals as goal

pub returns : goal.returns
returns c = taken_at_most
