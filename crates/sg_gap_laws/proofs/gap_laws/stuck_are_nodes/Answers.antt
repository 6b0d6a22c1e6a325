use Rattle.sg_gap_laws.proofs.Reached.{stuck_are_nodes}
use Rattle.sg_gap_laws.proofs.gap_laws.stuck_are_nodes.Goals as goal

pub returns : goal.returns
returns c = stuck_are_nodes
