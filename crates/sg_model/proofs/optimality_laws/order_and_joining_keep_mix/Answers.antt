use Rattle.sg_model.proofs.Joined.{mix-joined, mix-permuted}
use Rattle.sg_model.proofs.optimality_laws.order_and_joining_keep_mix.Goals as goal

pub returns : goal.returns
returns c = (mix-permuted, mix-joined)
