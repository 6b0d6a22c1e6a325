use Rattle.sg_programs.proofs.NodeEnds.{stop_is_cause}
use Rattle.sg_programs.proofs.node_laws.stop_is_cause.Goals as goal

pub returns : goal.returns
returns c = stop_is_cause
