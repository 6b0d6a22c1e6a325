use Rattle.sg_bounds.proofs.StepResults.{are_results}
use Rattle.sg_bounds.proofs.size_laws.sums_are_results.Goals as goal

pub returns : goal.returns
returns c = are_results
