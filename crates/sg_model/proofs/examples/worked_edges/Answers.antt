use Rattle.sg_model.proofs.AtEdges.{edges}
use Rattle.sg_model.proofs.examples.worked_edges.Goals as goal

pub returns : goal.returns
returns c = edges
