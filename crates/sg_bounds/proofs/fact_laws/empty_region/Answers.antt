use Rattle.sg_bounds.proofs.Caps.{empty_region}
use Rattle.sg_bounds.proofs.fact_laws.empty_region.Goals as goal

pub returns : goal.returns
returns c = empty_region
