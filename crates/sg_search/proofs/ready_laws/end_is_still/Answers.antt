use Rattle.sg_search.proofs.Told.{end_is_still}
use Rattle.sg_search.proofs.ready_laws.end_is_still.Goals as goal

pub returns : goal.returns
returns c = end_is_still
