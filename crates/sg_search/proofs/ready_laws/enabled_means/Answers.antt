use Rattle.sg_search.proofs.Told.{enabled_means}
use Rattle.sg_search.proofs.ready_laws.enabled_means.Goals as goal

pub returns : goal.returns
returns c = enabled_means
