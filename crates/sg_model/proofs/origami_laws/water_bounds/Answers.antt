use Rattle.sg_model.proofs.Bound as bound
use Rattle.sg_model.proofs.origami_laws.water_bounds.Goals as goal

pub returns : goal.returns
returns c = bound.water_bounds
