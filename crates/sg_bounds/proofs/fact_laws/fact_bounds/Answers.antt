use Rattle.sg_bounds.proofs.Caps.{each_fact_bounds}
use Rattle.sg_bounds.proofs.fact_laws.fact_bounds.Goals as goal

pub returns : goal.returns
returns c = each_fact_bounds
