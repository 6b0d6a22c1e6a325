use Rattle.sg_bounds.proofs.Trees.{leaf_is_met}
use Rattle.sg_bounds.proofs.report_laws.leaf_is_met.Goals as goal

pub returns : goal.returns
returns c = leaf_is_met
