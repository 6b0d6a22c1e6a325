use Rattle.sg_model.proofs.Values.{one_value}
use Rattle.sg_model.proofs.optimality_laws.optimal_value_is_one.Goals as goal

pub returns : goal.returns
returns c = one_value
