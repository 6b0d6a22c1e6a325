use Rattle.sg_bounds.proofs.Trees.{tree_bounds}
use Rattle.sg_bounds.proofs.report_laws.tree_bounds.Goals as goal

pub returns : goal.returns
returns c = tree_bounds
