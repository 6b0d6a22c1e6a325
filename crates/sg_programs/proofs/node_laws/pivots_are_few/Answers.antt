use Rattle.sg_programs.proofs.NodeEnds.{pivots_are_few}
use Rattle.sg_programs.proofs.node_laws.pivots_are_few.Goals as goal

pub returns : goal.returns
returns c = pivots_are_few
