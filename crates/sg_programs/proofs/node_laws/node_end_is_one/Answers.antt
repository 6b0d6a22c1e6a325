use Rattle.sg_programs.proofs.NodeEnds.{node_end_is_one}
use Rattle.sg_programs.proofs.node_laws.node_end_is_one.Goals as goal

pub returns : goal.returns
returns c = node_end_is_one
