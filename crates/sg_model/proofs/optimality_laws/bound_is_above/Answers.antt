use Rattle.sg_model.proofs.Values.{bound_above}
use Rattle.sg_model.proofs.optimality_laws.bound_is_above.Goals as goal

pub returns : goal.returns
returns c = bound_above
