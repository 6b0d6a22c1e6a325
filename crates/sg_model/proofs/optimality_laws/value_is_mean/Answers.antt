use Rattle.sg_model.proofs.Expected.{value_is_mean}
use Rattle.sg_model.proofs.optimality_laws.value_is_mean.Goals as goal

pub returns : goal.returns
returns c = value_is_mean
