use Rattle.sg_gap_laws.proofs.Small.{worked_ends}
use Rattle.sg_gap_laws.proofs.examples.worked_ends.Goals as goal

pub returns : goal.returns
returns c = worked_ends
