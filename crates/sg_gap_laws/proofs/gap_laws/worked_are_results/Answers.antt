use Rattle.sg_gap_laws.proofs.Reached.{worked_are_results}
use Rattle.sg_gap_laws.proofs.gap_laws.worked_are_results.Goals as goal

pub returns : goal.returns
returns c = worked_are_results
