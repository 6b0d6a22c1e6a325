use Rattle.sg_search.proofs.Told.{choices_are_there}
use Rattle.sg_search.proofs.ready_laws.choices_are_there.Goals as goal

pub returns : goal.returns
returns c = choices_are_there
