use Rattle.sg_gap_laws.proofs.Ample.{no_gap_of_nodes}
use Rattle.sg_gap_laws.proofs.enough_laws.no_gap_of_nodes.Goals as goal

pub returns : goal.returns
returns c = no_gap_of_nodes
