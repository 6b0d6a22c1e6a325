use Rattle.sg_bounds.proofs.Caps.{cap_bounds}
use Rattle.sg_bounds.proofs.fact_laws.cap_bounds.Goals as goal

pub returns : goal.returns
returns c = cap_bounds
