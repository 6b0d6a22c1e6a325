use Rattle.sg_bounds.proofs.Listed.{columns_are_all}
use Rattle.sg_bounds.proofs.fact_laws.columns_are_all.Goals as goal

pub returns : goal.returns
returns c = columns_are_all
