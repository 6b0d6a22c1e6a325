use Rattle.sg_programs.proofs.NodeEnds.{closed_is_result}
use Rattle.sg_programs.proofs.node_laws.closed_is_result.Goals as goal

pub returns : goal.returns
returns c = closed_is_result
